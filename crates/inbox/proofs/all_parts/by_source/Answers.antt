use Rattle.std.proofs.Common.{◌≡◌, append-nil, subst, sym}
use Rattle.inbox.specs.Merging.{all_of}
use Rattle.inbox.specs.inside.Filing.{AreSomeOf}
use Rattle.inbox.specs.inside.Mail.{letters_in}
use Rattle.inbox.proofs.Kept.{some_within}
use Rattle.inbox.proofs.all_parts.by_source.Goals as goal

pub returns : goal.returns
returns c =
    let letters = letters_in c.args.mail in
    let sorted = c.in_ok-letters.letters.items in
    let whole : all_of c.push.new.self.items ≡ sorted = rw (c.in_ok-push.ensures.items, c.in_ok-ordered.ensures.items) (append-nil sorted) in
    subst (AreSomeOf letters c.args.targets) (sym whole) (some_within letters sorted c.args.targets c.in_ok-letters.ensures.same)
