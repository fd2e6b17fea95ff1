use Rattle.std.proofs.Common.{ap, ◌∙◌}
use Rattle.rayon.proofs.ToStd.{slice-AllZip}
use Rattle.inbox.specs.inside.Blocks.{IsMade}
use Rattle.inbox.proofs.Collected.{IfOk-from_match, all_collected}
use Rattle.inbox.proofs.blocks.made_of.Goals as goal

pub returns : goal.returns
returns g c =
    let done = c.in_ok-collect.ensures in
    let chain = rw (c.map.ensures.base, c.map.ensures.f) at done.1 in
    let slice = ap (λ it. it.slice.now) c.with_min_len.ensures.base ∙ c.par_iter.ensures in
    IfOk-from_match c.in_ok-collect.field-0 _ _ _ done.2 (λ made items.
    rw items.2 (slice-AllZip chain.0 c.args.blocks.now (chain.1 ∙ slice) IsMade items.0 (all_collected (λ block inboxes. IsMade block.now inboxes) chain.0 done.0 items.0 chain.2 items.1)))
