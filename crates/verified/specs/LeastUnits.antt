-- Each instruction costs at least 1 unit.
use Rattle.std.specs.Prelude.{ℕ, ◌≤◌, filter, slice_get, Option, Some}
use Rattle.std.specs.Option.{option_and_then}
use Rattle.std.proofs.Common.{arith}
use Rattle.wasm_ast.specs.declared.numeric.Binary.TheVariants.{Mul}
use Rattle.wasm_ast.specs.declared.numeric.Numeric.{Numeric}
use Rattle.wasm_ast.specs.declared.numeric.Numeric.TheVariants as numeric
use Rattle.wasm_ast.specs.declared.plain.Memory.{Memory}
use Rattle.wasm_ast.specs.declared.plain.Memory.TheVariants as memory
use Rattle.wasm_ast.specs.declared.plain.Plain.{Plain}
use Rattle.wasm_ast.specs.declared.plain.Plain.TheVariants as plain
use Rattle.wasm_ast.specs.declared.plain.Branch.{Branch}
use Rattle.wasm_ast.specs.declared.plain.Branch.TheVariants as branch
use Rattle.wasm_ast.specs.declared.body.Instr.{Instr}
use Rattle.wasm_ast.specs.declared.body.Instr.TheVariants as instr
use Rattle.wasm_ast.specs.declared.module.Module.{Module}
use Rattle.wasm_ast.specs.Limits.{is_function}
use Rattle.verified.specs.declared.imports.HostCall.{HostCall}
use Rattle.verified.specs.declared.imports.HostCall.TheVariants.{Send, Aggregate}
use Rattle.verified.specs.Weights.{numeric_units, memory_units, plain_units, branch_units, host_units, call_units, units_of}
use Rattle.verified.specs.Imports.{call_of}

numeric_least : (op : Numeric) → 1 ≤ numeric_units op
numeric_least (numeric.Division t op) = omega arith
numeric_least (numeric.Binary t Mul) = omega arith
numeric_least _ = omega arith

memory_least : (op : Memory) → 1 ≤ memory_units op
memory_least (memory.Load op argument) = omega arith
memory_least (memory.Store op argument) = omega arith
memory_least _ = omega arith

pub plain_least : (p : Plain) → 1 ≤ plain_units p
plain_least (plain.Numeric op) = numeric_least op
plain_least (plain.Memory op) = memory_least op
plain_least _ = omega arith

pub branch_least : (b : Branch) → 1 ≤ branch_units b
branch_least (branch.BrTable labels other) = omega arith
branch_least _ = omega arith

host_least : (call : Option HostCall) → 1 ≤ host_units call
host_least (Some Send) = omega arith
host_least (Some Aggregate) = omega arith
host_least _ = omega arith

pub call_least : (m : Module) (f : ℕ) → 1 ≤ call_units m f
unfolding call_units
call_least m f = host_least (option_and_then call_of (slice_get (filter is_function m.imports) f))

pub units_least : (m : Module) (i : Instr) → 1 ≤ units_of m i
units_least m (instr.Plain p) = plain_least p
units_least m (instr.Branch b) = branch_least b
units_least m (instr.Call f) = call_least m f
units_least m _ = omega arith
