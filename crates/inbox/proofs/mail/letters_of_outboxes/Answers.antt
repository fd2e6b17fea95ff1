use Rattle.std.proofs.Common.{◌++◌, List, filter, take, ap, sym, ◌∙◌}
use Rattle.std.proofs.lemmas.List.{take_all}
use Rattle.std.proofs.lemmas.List.Elements.{filter-append}
use Rattle.inbox.specs.declared.letters.Letter.{Letter}
use Rattle.inbox.specs.Merging.{sent_in}
use Rattle.inbox.specs.inside.Shares.{goes_into}
use Rattle.inbox.proofs.Streaming.{one_more}
use Rattle.inbox.proofs.mail.letters_of_outboxes.Goals as goal

pub loop-outbox-preserved : goal.loop-outbox-preserved
loop-outbox-preserved c =
    let within = goes_into c.args.targets in
    let i = c.loop-outbox.outbox-index in
    let before = sent_in (take i c.args.outboxes.now) in
    c.in_ok-copy_to.ensures
    ∙ ap (λ letters. letters ++ filter within c.outbox-item.result) c.loop-outbox.invariant
    ∙ sym (filter-append within before c.outbox-item.result)
    ∙ ap (filter within) (sym (one_more (λ (letters : List Letter). letters) c.args.outboxes.now i c.outbox-item.result c.loop-outbox-test.true c.outbox-item.is))

pub returns : goal.returns
returns c = c.loop-outbox.invariant ∙ ap (λ outboxes. filter (goes_into c.args.targets) (sent_in outboxes)) (take_all c.loop-outbox.outbox-index c.args.outboxes.now c.loop-outbox-test.false)
