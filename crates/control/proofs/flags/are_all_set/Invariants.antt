use Rattle.std.proofs.Common.{◌≡◌, drop}
use Rattle.control.specs.Machine.{all_set}
use Rattle.control.proofs.flags.are_all_set.Given as goal

abbrev pub invariant-loop-flag : goal.invariant-loop-flag
invariant-loop-flag l = all_set (drop l.flag-index l.flags) ≡ all_set l.flags
