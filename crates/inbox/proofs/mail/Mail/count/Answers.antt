use Rattle.std.proofs.Common.{length, ap, sym, ◌∙◌}
use Rattle.inbox.specs.inside.Mail.{letters_in}
use Rattle.inbox.proofs.InShares.{counted}
use Rattle.inbox.proofs.Sending.{length_sent_in}
use Rattle.inbox.proofs.mail.Mail.count.Goals as goal

pub returns-in-Loose : goal.returns-in-Loose
returns-in-Loose c = c.item_count.ensures ∙ counted c.in-Loose.lists.now ∙ sym (ap (λ mail. length (letters_in mail)) c.in-Loose.is)

pub returns-in-Sent : goal.returns-in-Sent
returns-in-Sent c = c.letter_count.ensures ∙ length_sent_in c.in-Sent.outboxes.now ∙ sym (ap (λ mail. length (letters_in mail)) c.in-Sent.is)
