use Rattle.std.proofs.Common.{◌≡◌, ◌≤◌, ◌*◌, ◌^◌, length, sum_by, take}
use Rattle.inbox.proofs.arrivals.messages_in.Given as goal

abbrev pub invariant-loop-arrival : goal.invariant-loop-arrival
invariant-loop-arrival l = record {
  sum : l.count ≡ sum_by (λ arrival. length arrival.inbox) (take l.arrival-index l.arrivals);
  small : l.count ≤ l.arrival-index * 2 ^ 64;
}
