use Rattle.std.proofs.Common.{◌≡◌, ◌++◌, map, drop}
use Rattle.std.specs.List.{AllByRecursion}
use Rattle.wasm_ast.specs.Limits.{IsFunctionWithin}
use Rattle.verified.specs.Cells.{cells_of}
use Rattle.bounded_profile.proofs.cells.cells_table.Given as goal

abbrev pub invariant-loop-function : goal.invariant-loop-function
invariant-loop-function l = record {
  rest : AllByRecursion (IsFunctionWithin l.«module».types) (drop l.function-index l.function-items);
  told : map (cells_of l.«module») l.function-items ≡ l.table.items ++ map (cells_of l.«module») (drop l.function-index l.function-items);
}
