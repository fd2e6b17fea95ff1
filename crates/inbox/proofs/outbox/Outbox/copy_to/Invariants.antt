use Rattle.std.proofs.Common.{◌≡◌, ◌++◌, filter, length}
use Rattle.inbox.specs.inside.Outboxes.{unread_letters}
use Rattle.inbox.specs.inside.Shares.{goes_into}
use Rattle.inbox.proofs.outbox.Outbox.copy_to.Given as goal

abbrev pub invariant-loop-batch : goal.invariant-loop-batch
invariant-loop-batch l = l.letters.items ++ filter (goes_into l.targets) (unread_letters l.unread) ≡ l.fn.letters.items ++ filter (goes_into l.targets) l.self

abbrev pub decreases-loop-batch : goal.decreases-loop-batch
decreases-loop-batch l = length l.unread.sources.now
