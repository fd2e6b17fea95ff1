-- How many operands instructions take and give (Core 1.0, 3.3).
use Rattle.std.specs.Prelude.{ℕ, List, map, length, slice_get, Option, Some, None}
use Rattle.wasm_ast.specs.declared.types.ValType.{ValType}
use Rattle.wasm_ast.specs.declared.types.FuncType.{FuncType}
use Rattle.wasm_ast.specs.declared.numeric.Numeric.{Numeric}
use Rattle.wasm_ast.specs.declared.plain.Variable.{Variable}
use Rattle.wasm_ast.specs.declared.plain.Variable.TheVariants as variable
use Rattle.wasm_ast.specs.declared.plain.Memory.{Memory}
use Rattle.wasm_ast.specs.declared.plain.Memory.TheVariants as memory
use Rattle.wasm_ast.specs.declared.plain.Plain.{Plain}
use Rattle.wasm_ast.specs.declared.plain.Plain.TheVariants as plain
use Rattle.wasm_ast.specs.declared.plain.Branch.{Branch}
use Rattle.wasm_ast.specs.declared.plain.Branch.TheVariants as branch
use Rattle.wasm_ast.specs.declared.module.Module.{Module}
use Rattle.wasm_ast.specs.NumericTypes.{numeric_takes}
use Rattle.verified.specs.Spaces.{spaces_of}
use Rattle.verified.specs.declared.arity.Arity.{Arity}

abbrev pub arity : ℕ → ℕ → Arity
arity takes gives = record { takes = takes; gives = gives }

abbrev pub variable_arity : Variable → Arity
variable_arity (variable.LocalGet x) = arity 0 1
variable_arity (variable.LocalSet x) = arity 1 0
variable_arity (variable.LocalTee x) = arity 1 1
variable_arity (variable.GlobalGet x) = arity 0 1
variable_arity (variable.GlobalSet x) = arity 1 0

abbrev pub memory_arity : Memory → Arity
memory_arity (memory.Load op a) = arity 1 1
memory_arity (memory.Store op a) = arity 2 0
memory_arity memory.Size = arity 0 1
memory_arity memory.Grow = arity 1 1

abbrev pub numeric_arity : Numeric → Arity
numeric_arity op = arity (length (numeric_takes op)) 1

abbrev pub plain_arity : Plain → Arity
plain_arity plain.Nop = arity 0 0
plain_arity plain.Drop = arity 1 0
plain_arity plain.Select = arity 3 1
plain_arity (plain.Const v) = arity 0 1
plain_arity (plain.Numeric op) = numeric_arity op
plain_arity (plain.Variable op) = variable_arity op
plain_arity (plain.Memory op) = memory_arity op

-- nothing comes after a branch that is always taken, so it counts as taking and giving nothing
abbrev pub branch_arity : Branch → Arity
branch_arity (branch.Br l) = arity 0 0
branch_arity (branch.BrIf l) = arity 1 0
branch_arity (branch.BrTable ls l) = arity 0 0
branch_arity branch.Return = arity 0 0

-- the number of results of a block of the type
abbrev pub result_count : Option ValType → ℕ
result_count None = 0
result_count (Some t) = 1

-- a whole block, loop or `if` of the type
abbrev pub block_arity : Option ValType → Arity
block_arity t = arity 0 (result_count t)

-- the condition of an `if`
abbrev pub test_arity : Arity
test_arity = arity 1 0

abbrev pub type_arity : Option FuncType → Arity
type_arity None = arity 0 0
type_arity (Some t) = arity (length t.parameters) (length t.results)

-- the arity of a call of each function, imports first
abbrev pub arity_table : Module → List Arity
arity_table m = map (λ n. type_arity (slice_get m.types n)) (spaces_of m).functions

abbrev pub known_arity : Option Arity → Arity
known_arity None = arity 0 0
known_arity (Some a) = a

abbrev pub arity_at : List Arity → ℕ → Arity
arity_at table f = known_arity (slice_get table f)

-- the arity of a call of the function with this number
abbrev pub call_arity : Module → ℕ → Arity
call_arity m f = arity_at (arity_table m) f
