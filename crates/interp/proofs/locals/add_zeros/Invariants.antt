use Rattle.std.proofs.Common.{◌≡◌, ◌+◌, ◌++◌, drop, take, length, vec_capacity, vec_len}
use Rattle.interp.specs.inside.Cells.{zero_cells}
use Rattle.interp.proofs.Stored.{stored}
use Rattle.interp.proofs.locals.add_zeros.Given as goal

abbrev pub invariant-loop : goal.invariant-loop
invariant-loop l = record {
  so_far : stored l.cells.items ++ zero_cells (drop l.index l.types) ≡ stored l.fn.cells.items ++ zero_cells l.types;
  kept : take (length l.fn.cells.items) l.cells.items ≡ l.fn.cells.items;
  long : vec_len l.cells ≡ vec_len l.fn.cells + l.index;
  room : vec_capacity l.cells ≡ vec_capacity l.fn.cells;
}
