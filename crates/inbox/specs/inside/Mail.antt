-- The letters of a superstep, in either form.
use Rattle.std.specs.Prelude.{List}
use Rattle.inbox.specs.declared.letters.Letter.{Letter}
use Rattle.inbox.specs.declared.mail.Mail.{Mail}
use Rattle.inbox.specs.declared.mail.Mail.TheVariants.{Loose, Sent}
use Rattle.inbox.specs.Merging.{all_of, sent_in}

abbrev pub letters_in : Mail → List Letter
letters_in (Loose lists) = all_of lists.now
letters_in (Sent outboxes) = sent_in outboxes.now
