use Rattle.std.proofs.Common.{List, Vec, Global, ap, subst, sym, ◌∙◌}
use Rattle.rayon.proofs.ToStd.{slice-AllZip}
use Rattle.std.specs.List.{AllZip}
use Rattle.inbox.specs.declared.all_parts.Delivered.{Delivered}
use Rattle.inbox.specs.inside.Filing.{IsMadeOf}
use Rattle.inbox.proofs.Collected.{IfOk-from_match, all_collected}
use Rattle.inbox.proofs.all_parts.made_of_shares.Goals as goal

pub returns : goal.returns
returns g c =
    let done = c.in_ok-collect.ensures in
    let chain = done.1 in
    let slice = ap (λ it. it.base.slice.now) c.map.ensures.base ∙ ap (λ it. it.slice.now) c.with_min_len.ensures.base ∙ c.par_iter.ensures in
    IfOk-from_match c.in_ok-collect.field-0 _ _ _ done.2 (λ all items.
    subst (λ (made : List (Vec Delivered Global)). AllZip IsMadeOf c.args.filed.now made) (sym items.2)
    (slice-AllZip chain.0 c.args.filed.now (chain.1 ∙ slice) IsMadeOf items.0 (all_collected (λ share made. IsMadeOf share.now made) chain.0 done.0 items.0 chain.2 items.1)))
