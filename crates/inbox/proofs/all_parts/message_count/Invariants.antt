use Rattle.std.proofs.Common.{◌≡◌, ◌≤◌, ◌*◌, ◌^◌, length, sum_by, take}
use Rattle.inbox.proofs.all_parts.message_count.Given as goal

abbrev pub invariant-loop-inbox : goal.invariant-loop-inbox
invariant-loop-inbox l = record {
  sum : l.count ≡ sum_by (λ inbox. length inbox) (take l.inbox-index l.inboxes);
  small : l.count ≤ l.inbox-index * 2 ^ 64;
}
