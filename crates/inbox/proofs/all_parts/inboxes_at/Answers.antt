use Rattle.std.proofs.Common.{ap, ◌∙◌}
use Rattle.rayon.proofs.ListFacts.{AllZip-weaken}
use Rattle.rayon.proofs.ToStd.{slice-AllZip}
use Rattle.inbox.specs.inside.Shares.{IsInboxIn}
use Rattle.inbox.proofs.Collected.{IfOk-from_match, all_collected}
use Rattle.inbox.proofs.all_parts.inboxes_at.Goals as goal

pub returns : goal.returns
returns g c =
    let done = c.in_ok-collect.ensures in
    let chain = rw (c.map_init.ensures.base, c.map_init.ensures.f) at done.1 in
    let slice = ap (λ it. it.slice.now) c.with_min_len.ensures.base ∙ c.par_iter.ensures in
    let is_inbox = IsInboxIn c.args.letters.now in
    IfOk-from_match c.in_ok-collect.field-0 _ _ _ done.2 (λ inboxes items.
    rw items.2 (slice-AllZip chain.0 c.args.ids.now (chain.1 ∙ slice) is_inbox items.0 (all_collected (λ id inbox. is_inbox id.now inbox) chain.0 done.0 items.0 (AllZip-weaken _ _ (λ id inbox told. told.2) chain.0 done.0 chain.2) items.1)))
