-- The contents of a function's frame (Core 1.0, 4.2.12): its locals, with the parameters among them (4.4.7), and its
-- own operands. Function numbers count the imports first (2.5.1).
use Rattle.std.specs.Prelude.{ℕ, ◌+◌, ◌-◌, ◌<◌, ◌≤◌, List, length, map, min, slice_get, Option, Some, None}
use Rattle.wasm_ast.specs.declared.module.Function.{Function}
use Rattle.wasm_ast.specs.declared.module.Module.{Module}
use Rattle.wasm_ast.specs.Limits.{imported_functions, parameters_of}
use Rattle.verified.specs.Calls.{body_of, callees}
use Rattle.verified.specs.Cycles.{Leads}
use Rattle.verified.specs.Heights.{peak, peak_in}
use Rattle.verified.specs.Profile.{HasCompute}
use Rattle.verified.specs.declared.cells.Cells.{Cells}

-- the module defines the function with this number
abbrev pub IsDefined : Module → ℕ → Type 0
IsDefined m f = (imported_functions m.imports ≤ f) × (f < imported_functions m.imports + length m.functions)

-- parameters and locals together
abbrev pub locals_in : Module → Option Function → ℕ
locals_in m None = 0
locals_in m (Some f) = parameters_of m.types f.type_number + length f.locals

-- those of the function with this number, which the module defines
abbrev pub locals_at : Module → ℕ → ℕ
locals_at m f = locals_in m (slice_get m.functions (f - imported_functions m.imports))

-- a callee adds only its results to the operands of its caller
abbrev pub no_heights : ℕ → ℕ
no_heights f = 0

-- the greatest height of the function's own operand stack, with the operands under each block
abbrev pub own_height : Module → ℕ → ℕ
own_height m f = peak_in m no_heights (body_of m f)

-- the greatest count that is returned
abbrev pub most_told : ℕ
most_told = 4294967295

-- a call of `compute` may run the function: it is `compute`, or `compute` calls it, directly or through others
pub record MayRun (m : Module) (f : ℕ) : Type 0 where
  pub compute : HasCompute m
  pub path : List ℕ
  pub leads : Leads (callees m) compute.number path f

-- the cells of a function
abbrev pub cells_of : Module → Function → Cells
cells_of m f = record {
  locals = locals_in m (Some f);
  operands = min (peak m no_heights f.body 0) most_told;
}

-- the cells of each function that the module defines
abbrev pub cells_table : Module → List Cells
cells_table m = map (cells_of m) m.functions
