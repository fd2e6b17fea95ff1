use Rattle.std.proofs.Common.{◌≡◌, ◌+◌}
use Rattle.bounded_profile.specs.inside.Footprint.{marked_to}
use Rattle.bounded_profile.proofs.footprint.mark.Given as goal

abbrev pub invariant-loop-step : goal.invariant-loop-step
invariant-loop-step l = l.marks ≡ marked_to (l.address + l.offset) l.step l.fn.marks
