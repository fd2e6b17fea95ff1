-- The table of weights: the units of each instruction. The size of code, the machine's count and the running call use it.
use Rattle.std.specs.Prelude.{ℕ, List, map, filter, slice_get, slice_index_or, Option, Some, None}
use Rattle.std.specs.Option.{option_and_then}
use Rattle.wasm_ast.specs.declared.numeric.Binary.TheVariants.{Mul}
use Rattle.wasm_ast.specs.declared.numeric.Numeric.{Numeric}
use Rattle.wasm_ast.specs.declared.numeric.Numeric.TheVariants as numeric
use Rattle.wasm_ast.specs.declared.plain.Memory.{Memory}
use Rattle.wasm_ast.specs.declared.plain.Memory.TheVariants as memory
use Rattle.wasm_ast.specs.declared.plain.Plain.{Plain}
use Rattle.wasm_ast.specs.declared.plain.Plain.TheVariants as plain
use Rattle.wasm_ast.specs.declared.plain.Branch.{Branch}
use Rattle.wasm_ast.specs.declared.plain.Branch.TheVariants as branch
use Rattle.wasm_ast.specs.declared.body.Instr.{Instr}
use Rattle.wasm_ast.specs.declared.body.Instr.TheVariants as instr
use Rattle.wasm_ast.specs.declared.module.Import.{Import}
use Rattle.wasm_ast.specs.declared.module.Module.{Module}
use Rattle.wasm_ast.specs.Limits.{is_function}
use Rattle.verified.specs.declared.imports.HostCall.{HostCall}
use Rattle.verified.specs.declared.imports.HostCall.TheVariants.{Send, Aggregate}
use Rattle.verified.specs.Imports.{call_of}

-- numeric instructions (Core 1.0, 2.4.1): div and rem, and mul, cost more than the others
abbrev pub numeric_units : Numeric → ℕ
numeric_units (numeric.Division t op) = 6
numeric_units (numeric.Binary t Mul) = 3
numeric_units _ = 1

-- memory instructions (2.4.4): loads and stores
abbrev pub memory_units : Memory → ℕ
memory_units (memory.Load op argument) = 2
memory_units (memory.Store op argument) = 2
memory_units _ = 1

-- instructions that neither branch nor call
abbrev pub plain_units : Plain → ℕ
plain_units (plain.Numeric op) = numeric_units op
plain_units (plain.Memory op) = memory_units op
plain_units _ = 1

-- branches (2.4.5)
abbrev pub branch_units : Branch → ℕ
branch_units (branch.BrTable labels other) = 2
branch_units _ = 1

-- a call of a host function; `None` is any other function
abbrev pub host_units : Option HostCall → ℕ
host_units (Some Send) = 8
host_units (Some Aggregate) = 8
host_units _ = 2

-- A call of the function with this index (2.4.5), imports first (2.5.1). The imports `send` and `aggregate` of module
-- `pregel` cost more.
unfoldable pub call_units : Module → ℕ → ℕ
call_units m f = host_units (option_and_then call_of (slice_get (filter is_function m.imports) f))

-- the units of executing the instruction, without those of any instructions inside it
abbrev pub units_of : Module → Instr → ℕ
units_of m (instr.Plain p) = plain_units p
units_of m (instr.Branch b) = branch_units b
units_of m (instr.Call f) = call_units m f
units_of m _ = 1

-- the units of a call of each imported function
abbrev pub imported_units : List Import → List ℕ
imported_units is = map (λ (i : Import). host_units (call_of i)) (filter is_function is)

-- the units at this index; past the imports, those of a defined function
abbrev pub units_at : List ℕ → ℕ → ℕ
units_at imported f = slice_index_or imported f (host_units None)
