use Rattle.std.proofs.Common.{◌≡◌, suc, true, ap, sym, ◌∙◌, subst}
use Rattle.std.proofs.lemmas.Result.{IfOk-weaker}
use Rattle.superstep.specs.State.{IsStateAt}
use Rattle.book.specs.inside.Parts.{Placement}
use Rattle.book.proofs.InSlots.{all_returned, ok_both, row_back, trusted_back}
use Rattle.book.proofs.parts.Parts.merge.Goals as goal

pub dones_of-requires : goal.dones_of-requires
dones_of-requires g c =
    all_returned c.self.inside.part_slots.items c.args.job.now.settings.parts (ap (λ (x : Placement). x.spots) c.self.view_is ∙ c.requires.all)

pub barrier-requires-clause-row : goal.barrier-requires-clause-row
barrier-requires-clause-row g c κs within =
    let i = c.self.inside in
    row_back i.epoch i.totals.superstep c.args.job.now.settings.parts i.part_slots.items c.in_ok-dones.dones.items c.in_ok-dones.ensures c.self.invariant.in_slots (ap (λ (x : Placement). x.spots) c.self.view_is ∙ c.requires.all)

pub returns-clause-next : goal.returns-clause-next
returns-clause-next g c =
    let i = c.self.inside in
    let last : i.epoch ≡ c.args.self.epoch = ap (λ (x : Placement). x.epoch) c.self.view_is in
    let here : i.totals.superstep ≡ c.args.self.superstep = ap (λ (x : Placement). x.superstep) c.self.view_is in
    IfOk-weaker c.barrier.result _ _ (λ state told. λ sure.
    let own = subst (λ n. g.J.Origin.honest n ≡ true) (sym last) sure in
    let trusted = trusted_back g.J.Origin.honest i.epoch i.totals.superstep i.part_slots.items c.in_ok-dones.dones.items g.J.Origin.lasts own c.in_ok-dones.ensures c.self.invariant.in_slots in
    record {
      at = subst (λ n. IsStateAt g.J.Origin.work (suc n) state) here (told.0 trusted (c.self.invariant.sums own));
      since = told.1 ∙ c.self.invariant.since own;
    }) (ok_both c.barrier.result _ _ c.barrier.ensures.next c.barrier.ensures.since)
