use Rattle.std.proofs.Common.{◌++◌, ap, filter, ◌∙◌}
use Rattle.inbox.specs.Merging.{all_of}
use Rattle.std.proofs.lemmas.List.{take_all}
use Rattle.inbox.specs.inside.Shares.{goes_into}
use Rattle.inbox.proofs.InShares.{filtered_more}
use Rattle.inbox.proofs.mail.letters_of_lists.Goals as goal

pub loop-list-preserved : goal.loop-list-preserved
loop-list-preserved c =
    let list = c.list-item.result in
    let within = goes_into c.args.targets in
    let before = c.loop-list.letters.items in
    let added = c.in_ok-copy_list.ensures ∙ ap (λ list. before ++ filter within list) c.deref.ensures.value in
    filtered_more within c.args.lists.now c.loop-list.list-index list before c.copy_list.new.letters.items c.loop-list-test.true c.list-item.is c.loop-list.invariant added

pub returns : goal.returns
returns c = c.loop-list.invariant ∙ ap (λ lists. filter (goes_into c.args.targets) (all_of lists)) (take_all c.loop-list.list-index c.args.lists.now c.loop-list-test.false)
