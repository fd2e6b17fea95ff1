use Rattle.std.proofs.Common.{◌≡◌, ◌++◌, length}
use Rattle.superstep.specs.Tasks.{stamps_of}
use Rattle.superstep.proofs.slice.label.Given as goal

abbrev pub invariant-loop-vertices : goal.invariant-loop-vertices
invariant-loop-vertices g l = record {
  named : l.slices.items ≡ stamps_of l.epoch l.superstep l.part;
  counted : l.part ≡ length l.yielded;
  left : l.yielded ++ l.vertices-iterator.rest.items ≡ l.fn.cut.items;
}
