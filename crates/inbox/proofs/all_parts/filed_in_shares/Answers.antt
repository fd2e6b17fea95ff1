use Rattle.std.proofs.Common.{List, ap, subst, sym, ◌∙◌}
use Rattle.rayon.proofs.ToStd.{slice-AllZip}
use Rattle.std.specs.List.{AllZip}
use Rattle.inbox.specs.declared.all_parts.Filed.{Filed}
use Rattle.inbox.specs.declared.mail.Mail.{Mail}
use Rattle.inbox.specs.inside.Filing.{IsFiled}
use Rattle.inbox.specs.inside.Mail.{letters_in}
use Rattle.inbox.proofs.Collected.{IfOk-from_match, all_collected}
use Rattle.inbox.proofs.all_parts.filed_in_shares.Goals as goal

pub returns : goal.returns
returns g c =
    let done = c.in_ok-collect.ensures in
    let chain = done.1 in
    let slice = ap (λ it. it.base.slice.now) c.map.ensures.base ∙ ap (λ it. it.slice.now) c.with_min_len.ensures.base ∙ c.par_iter.ensures in
    let same = ap (λ f. f.1.now) c.map.ensures.f in
    let is_filed = IsFiled (letters_in c.map.result.f.1.now) in
    IfOk-from_match c.in_ok-collect.field-0 _ _ _ done.2 (λ all items.
    subst (λ (filed : List Filed). AllZip (IsFiled (letters_in c.args.mail)) c.args.shares.now filed) (sym items.2)
    (subst (λ (mail : Mail). AllZip (IsFiled (letters_in mail)) c.args.shares.now items.0) same
    (slice-AllZip chain.0 c.args.shares.now (chain.1 ∙ slice) is_filed items.0 (all_collected (λ share filed. is_filed share.now filed) chain.0 done.0 items.0 chain.2 items.1))))
