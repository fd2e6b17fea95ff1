use Rattle.std.proofs.Common.{◌≡◌, ◌++◌, map}
use Rattle.superstep.specs.inside.Running.{slice_of}
use Rattle.conformance_jobs.proofs.plain_jobs.by_hand.copies.Given as goal

abbrev pub invariant-loop-slice : goal.invariant-loop-slice
invariant-loop-slice g l = record {
  fits : l.scratch ≡ l.job.«module»;
  done : map slice_of l.copies.items ≡ l.yielded;
  left : l.yielded ++ l.slice-iterator.rest.items ≡ l.fn.slices.items;
}
