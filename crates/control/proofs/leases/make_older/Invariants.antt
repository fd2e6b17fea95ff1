use Rattle.std.proofs.Common.{◌≡◌, ◌++◌, take, drop}
use Rattle.control.specs.Machine.{by_place, older, one_older, is_busy}
use Rattle.control.proofs.leases.make_older.Given as goal

abbrev pub invariant-loop-i : goal.invariant-loop-i
invariant-loop-i l = take l.i l.age ++ by_place (λ w n. one_older (is_busy l.alive l.out w) n) l.i (drop l.i l.age) ≡ older l.alive l.out l.fn.age
