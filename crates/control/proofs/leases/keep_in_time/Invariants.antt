use Rattle.std.proofs.Common.{◌≡◌, ◌++◌, take, drop, ◌&&◌, not}
use Rattle.control.specs.Machine.{by_place, in_time, is_overdue}
use Rattle.control.proofs.leases.keep_in_time.Given as goal

abbrev pub invariant-loop-i : goal.invariant-loop-i
invariant-loop-i l = take l.i l.alive ++ by_place (λ w a. a && not (is_overdue l.lease l.out l.age w)) l.i (drop l.i l.alive) ≡ in_time l.lease l.out l.age l.fn.alive
