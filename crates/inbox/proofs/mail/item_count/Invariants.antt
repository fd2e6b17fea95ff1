use Rattle.std.proofs.Common.{◌≡◌, ◌≤◌, ◌*◌, ◌^◌, sum_by, take, vec_len}
use Rattle.inbox.proofs.mail.item_count.Given as goal

abbrev pub invariant-loop-list : goal.invariant-loop-list
invariant-loop-list g l = record {
  sum : l.count ≡ sum_by (λ list. vec_len list) (take l.list-index l.lists);
  small : l.count ≤ l.list-index * 2 ^ 64;
}
