use Rattle.std.proofs.Common.{◌≡◌, drop}
use Rattle.control.specs.Machine.{least}
use Rattle.control.proofs.leases.least_part.Given as goal

abbrev pub invariant-loop-i : goal.invariant-loop-i
invariant-loop-i l = least l.count l.place l.i (drop l.i l.done) ≡ least l.count l.place 0 l.done
