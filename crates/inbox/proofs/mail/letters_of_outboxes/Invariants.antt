use Rattle.std.proofs.Common.{◌≡◌, filter, take}
use Rattle.inbox.specs.Merging.{sent_in}
use Rattle.inbox.specs.inside.Shares.{goes_into}
use Rattle.inbox.proofs.mail.letters_of_outboxes.Given as goal

abbrev pub invariant-loop-outbox : goal.invariant-loop-outbox
invariant-loop-outbox l = l.letters.items ≡ filter (goes_into l.targets) (sent_in (take l.outbox-index l.outboxes))
