use Rattle.std.proofs.Common.{◌≡◌, drop}
use Rattle.interp.specs.inside.Begun.{cells_laid_in}
use Rattle.interp.specs.inside.Kept.{count_kept}
use Rattle.interp.proofs.start.initial.write_segments.Given as goal

abbrev pub invariant-loop-segment : goal.invariant-loop-segment
invariant-loop-segment l = record {
  laid : cells_laid_in l.globals l.segments l.fn.memory ≡ cells_laid_in l.globals (drop l.segment-index l.segments) l.memory;
  kept : count_kept l.memory ≡ count_kept l.fn.memory;
}
