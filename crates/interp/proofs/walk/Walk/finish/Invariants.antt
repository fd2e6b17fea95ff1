use Rattle.std.proofs.Common.{◌≡◌}
use Rattle.verified.specs.View.{code_of}
use Rattle.semantics.specs.Machine.{Machine}
use Rattle.interp.specs.inside.Place.{at, hosted}
use Rattle.interp.specs.inside.Walk.{EndsWithin, Follows, left_of, max_count}
use Rattle.interp.proofs.walk.Walk.finish.Given as goal

abbrev pub invariant-turns : goal.invariant-turns
invariant-turns l = record {
  follows : (from : Machine) → Follows l.program.«module».now from (at (hosted l.initial.self l.initial.host) (code_of l.initial.rest) 0) → EndsWithin l.program.«module».now from max_count → Follows l.program.«module».now from (at (hosted l.self l.host) (code_of l.rest) l.count);
  room : l.self.room ≡ l.initial.self.room;
}

abbrev pub decreases-turns : goal.decreases-turns
decreases-turns l = left_of max_count (at l.self (code_of l.rest) l.count)
