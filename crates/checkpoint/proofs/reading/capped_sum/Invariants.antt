use Rattle.std.proofs.Common.{◌≡◌, take}
use Rattle.std.specs.List.{sum}
use Rattle.job_state.specs.State.{capped}
use Rattle.checkpoint.proofs.reading.capped_sum.Given as goal

abbrev pub invariant-loop-own : goal.invariant-loop-own
invariant-loop-own l = l.total ≡ capped (sum (take l.own-index l.units))
