use Rattle.std.proofs.Common.{◌≡◌, take, replicate, false}
use Rattle.control.proofs.flags.clear.Given as goal

abbrev pub invariant-loop-flag : goal.invariant-loop-flag
invariant-loop-flag l = take l.flag-index l.flags ≡ replicate l.flag-index false
