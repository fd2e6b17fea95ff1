use Rattle.std.proofs.Common.{◌≡◌}
use Rattle.inbox.specs.inside.Shares.{inboxes_in}
use Rattle.inbox.proofs.all_parts.inboxes_in.Given as goal

abbrev pub invariant-loop-part : goal.invariant-loop-part
invariant-loop-part l = l.parts.items ≡ inboxes_in l.yielded
