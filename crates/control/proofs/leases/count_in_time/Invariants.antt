use Rattle.std.proofs.Common.{◌≡◌, ◌≤◌, ◌+◌, drop, ◌&&◌, not}
use Rattle.control.specs.Machine.{by_place, in_time, is_overdue, count_set}
use Rattle.control.proofs.leases.count_in_time.Given as goal

abbrev pub invariant-loop-i : goal.invariant-loop-i
invariant-loop-i l = record {
  so_far : l.count + count_set (by_place (λ w a. a && not (is_overdue l.lease l.out l.age w)) l.i (drop l.i l.alive)) ≡ count_set (in_time l.lease l.out l.age l.alive);
  small : l.count ≤ l.i;
}
