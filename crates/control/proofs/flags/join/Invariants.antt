use Rattle.std.proofs.Common.{◌≡◌, ◌++◌, take, drop, get_or, false}
use Rattle.std.specs.Prelude.{◌||◌}
use Rattle.control.specs.Machine.{by_place, either}
use Rattle.control.proofs.flags.join.Given as goal

abbrev pub invariant-loop-i : goal.invariant-loop-i
invariant-loop-i l = take l.i l.alive ++ by_place (λ w a. a || get_or l.waiting w false) l.i (drop l.i l.alive) ≡ either l.fn.alive l.waiting
