use Rattle.std.proofs.Common.{◌≡◌, ◌≤◌, ◌*◌, ◌^◌, length, sum_by, take}
use Rattle.inbox.proofs.mail.letter_count.Given as goal

abbrev pub invariant-loop-outbox : goal.invariant-loop-outbox
invariant-loop-outbox l = record {
  sum : l.count ≡ sum_by length (take l.outbox-index l.outboxes);
  small : l.count ≤ l.outbox-index * 2 ^ 64;
}
