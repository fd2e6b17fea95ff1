-- The memory of a module that imports none, and what is laid in it (Core 1.0, 2.5.5 and 2.5.8).
use Rattle.std.specs.Prelude.{◌≡◌, ℕ, ◌+◌, ◌*◌, ◌≤◌, List, [], ◌∷◌, length, slice_get, Option, Some, None}
use Rattle.std.specs.Option.{option_and_then}
use Rattle.std.specs.List.{AllByRecursion}
use Rattle.wasm_ast.specs.declared.types.Limits.{Limits}
use Rattle.wasm_ast.specs.declared.types.Value.{Value}
use Rattle.wasm_ast.specs.declared.types.Value.TheVariants as value
use Rattle.wasm_ast.specs.declared.plain.Variable.{Variable}
use Rattle.wasm_ast.specs.declared.plain.Variable.TheVariants as variable
use Rattle.wasm_ast.specs.declared.plain.Plain.{Plain}
use Rattle.wasm_ast.specs.declared.plain.Plain.TheVariants as plain
use Rattle.wasm_ast.specs.declared.module.Global.{Global}
use Rattle.wasm_ast.specs.declared.module.Data.{Data}
use Rattle.wasm_ast.specs.declared.module.Module.{Module}
use Rattle.wasm_ast.specs.Code.{Code}
use Rattle.wasm_ast.specs.Code as code

-- bytes of a page (4.2.8)
abbrev pub page : ℕ
page = 65536

-- the greatest minimum of a memory, in pages
abbrev pub max_minimum : ℕ
max_minimum = 16

abbrev pub bytes_of : List Limits → ℕ
bytes_of [] = 0
bytes_of (l ∷ ls) = page * l.minimum

-- the bytes of the memory; it stays at its minimum, since nothing grows it
abbrev pub memory_bytes : Module → ℕ
memory_bytes m = bytes_of m.memories

abbrev pub MinimumsWithin : Module → Type 0
MinimumsWithin m = AllByRecursion (λ (l : Limits). l.minimum ≤ max_minimum) m.memories

abbrev pub number_of : Value → ℕ
number_of (value.I32 n) = n
number_of (value.I64 n) = n

-- the value of an initializer, where it is a constant
abbrev pub plain_number : Plain → Option ℕ
plain_number (plain.Const v) = Some (number_of v)
plain_number _ = None

abbrev pub initial_number : Code → Option ℕ
initial_number (code.plain p rest) = plain_number p
initial_number _ = None

-- the value of an offset: a constant, or the initial value of a global
abbrev pub variable_number : Module → Variable → Option ℕ
variable_number m (variable.GlobalGet x) =
    option_and_then (λ (g : Global). initial_number g.initial) (slice_get m.globals x)
variable_number m _ = None

abbrev pub plain_offset : Module → Plain → Option ℕ
plain_offset m (plain.Const v) = Some (number_of v)
plain_offset m (plain.Variable op) = variable_number m op
plain_offset m _ = None

abbrev pub offset_number : Module → Code → Option ℕ
offset_number m (code.plain p rest) = plain_offset m p
offset_number m _ = None

-- the segment is within the initial memory
abbrev pub DataWithin : Module → Data → Type 0
DataWithin m d = (n : ℕ) × (offset_number m d.offset ≡ Some n) × (n + length d.bytes ≤ memory_bytes m)

abbrev pub SegmentsWithin : Module → Type 0
SegmentsWithin m = AllByRecursion (DataWithin m) m.data
