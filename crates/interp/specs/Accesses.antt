-- The bytes that the loads and stores of a call touch (Core 1.0, 4.4.4).
use Rattle.std.specs.Prelude.{◌≡◌, ℕ, ◌+◌, ◌<◌, List, ◌∷◌, true, Option, Some, None}
use Rattle.wasm_ast.specs.declared.types.Value.{Value}
use Rattle.wasm_ast.specs.declared.types.Value.TheVariants.{I32}
use Rattle.wasm_ast.specs.declared.plain.Memory.{Memory}
use Rattle.wasm_ast.specs.declared.plain.Memory.TheVariants as memory
use Rattle.wasm_ast.specs.declared.plain.Plain.{Plain}
use Rattle.wasm_ast.specs.declared.plain.Plain.TheVariants as plain
use Rattle.wasm_ast.specs.declared.module.Module.{Module}
use Rattle.wasm_ast.specs.Code as code
use Rattle.wasm_ast.specs.Widths.{load_width, store_width}
use Rattle.verified.specs.declared.call.CallInput.{CallInput}
use Rattle.verified.specs.Modules.{IsTyped}
use Rattle.verified.specs.Profile.{IsBounded}
use Rattle.verified.specs.Reached.{Access, is_reached}
use Rattle.semantics.specs.Machine.{Machine, Running, run}
use Rattle.semantics.specs.Start.{Starts}

-- the bytes that a load or a store touches, by the operands: it begins at the address with the offset added; a store's
-- address is below the value that it stores
abbrev pub memory_access : Memory → List Value → Option Access
memory_access (memory.Load op a) (I32 i ∷ vs) = Some (record { from = i + a.offset; width = load_width op })
memory_access (memory.Store op a) (v ∷ I32 i ∷ vs) = Some (record { from = i + a.offset; width = store_width op })
memory_access _ vs = None

abbrev pub plain_access : Plain → List Value → Option Access
plain_access (plain.Memory op) vs = memory_access op vs
plain_access _ vs = None

-- the bytes that the next instruction touches, if it is a load or a store
abbrev pub next_access : Machine → Option Access
next_access (Running vs (code.plain p is) ls st) = plain_access p vs
next_access _ = None

-- from this configuration on, each byte that a load or a store touches is one that `reach` counts
abbrev pub TouchesReached : Module → Machine → Type 0
TouchesReached m first =
    (n : ℕ) (access : Access) → next_access (run m n first) ≡ Some access
    → (k : ℕ) → k < access.width → is_reached m (access.from + k) ≡ true

-- so it is in each call of the module
abbrev pub CallsTouchReached : Module → Type 0
CallsTouchReached m =
    IsTyped m → IsBounded m → (input : CallInput) (first : Machine) → Starts m input first → TouchesReached m first
