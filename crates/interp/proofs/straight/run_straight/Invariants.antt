use Rattle.std.proofs.Common.{◌≡◌, ◌≤◌, length}
use Rattle.verified.specs.View.{code_of}
use Rattle.interp.specs.inside.Kept.{count_kept}
use Rattle.interp.specs.inside.Straight.{Passes}
use Rattle.interp.specs.inside.Walk.{max_count}
use Rattle.interp.proofs.Flats.{here_of}
use Rattle.interp.proofs.straight.run_straight.Given as goal

abbrev pub invariant-loop-first : goal.invariant-loop-first
invariant-loop-first l = record {
  within : l.at.top ≤ length l.cells;
  more : l.fn.count ≤ l.at.count;
  kept_globals : l.globals.initial ≡ l.fn.globals.initial;
  kept_bytes : count_kept l.bytes ≡ count_kept l.fn.bytes;
  passes : Passes l.program.«module».now max_count (here_of l.fn.cells l.fn.top (code_of l.fn.code) l.fn.locals l.fn.globals l.fn.bytes l.fn.host l.fn.count) (here_of l.cells l.at.top (code_of l.at.code.now) l.locals l.globals l.bytes l.host l.at.count);
}

abbrev pub decreases-loop-first : goal.decreases-loop-first
decreases-loop-first l = length l.at.code.now
