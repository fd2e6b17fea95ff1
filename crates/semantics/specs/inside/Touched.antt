-- The bytes of a memory that some load or store of the module reaches, and those that the next instruction loads or
-- stores.
use Rattle.std.specs.Prelude.{◌≡◌, ℕ, zero, suc, ◌+◌, ◌<◌, List, [], ◌∷◌, get_or, Bool, true, false}
use Rattle.wasm_ast.specs.declared.types.Value.{Value}
use Rattle.wasm_ast.specs.declared.plain.Memory.{Memory}
use Rattle.wasm_ast.specs.declared.plain.Memory.TheVariants as memory
use Rattle.wasm_ast.specs.declared.plain.Plain.{Plain}
use Rattle.wasm_ast.specs.declared.plain.Plain.TheVariants as plain
use Rattle.wasm_ast.specs.declared.module.Module.{Module}
use Rattle.wasm_ast.specs.Code as code
use Rattle.wasm_ast.specs.Widths.{load_width, store_width}
use Rattle.verified.specs.Memory.{memory_bytes, number_of}
use Rattle.verified.specs.Reached.{is_reached}
use Rattle.semantics.specs.Machine.{Machine, Running}

-- whether each of `count` bytes is reached, from `byte` on
abbrev pub marks_from : Module → (byte count : ℕ) → List Bool
marks_from m byte zero = []
marks_from m byte (suc count) = is_reached m byte ∷ marks_from m (suc byte) count

abbrev pub marks : Module → List Bool
marks m = marks_from m 0 (memory_bytes m)

-- all bytes from a place on, this many, are marked
abbrev pub AreMarked : List Bool → (place width : ℕ) → Type 0
AreMarked ms place width = (k : ℕ) → k < width → get_or ms (place + k) false ≡ true

-- a rule holds of the place and the width of a load or a store
abbrev pub MemoryTouches : ((place width : ℕ) → Type 0) → Memory → List Value → Type 0
MemoryTouches R (memory.Load op a) (v ∷ vs) = R (number_of v + a.offset) (load_width op)
MemoryTouches R (memory.Store op a) (n ∷ v ∷ vs) = R (number_of v + a.offset) (store_width op)
MemoryTouches R _ vs = Unit {0}

abbrev pub PlainTouches : ((place width : ℕ) → Type 0) → Plain → List Value → Type 0
PlainTouches R (plain.Memory op) vs = MemoryTouches R op vs
PlainTouches R _ vs = Unit {0}

-- the same for the next instruction
abbrev pub Touches : ((place width : ℕ) → Type 0) → Machine → Type 0
Touches R (Running vs (code.plain p is) ls st) = PlainTouches R p vs
Touches R _ = Unit {0}
