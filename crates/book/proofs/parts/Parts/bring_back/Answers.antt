use Rattle.std.proofs.Common.{◌≡◌, ◌<◌, ◌≤◌, ℕ, List, length, refl, ap, ◌∙◌, sym, subst, arith}
use Rattle.std.proofs.lemmas.List.{length-map}
use Rattle.std.proofs.Math.ListN.{set}
use Rattle.superstep.proofs.Trusting.{earlier}
use Rattle.book.specs.declared.part_slots.PartSlot.TheVariants.{Back}
use Rattle.book.specs.inside.Parts.{Placement, Spot, returned}
use Rattle.book.specs.inside.Parts.Spot.{Returned}
use Rattle.book.specs.inside.PartSlots.{IsKept, spot_of, spots_of}
use Rattle.book.proofs.InSlots.{in_slots_later, in_slots_set, placement_of, spots_set}
use Rattle.book.proofs.parts.Parts.bring_back.Goals as goal

pub invariant_of-self : goal.invariant_of-self
invariant_of-self g c =
    let i = c.self.inside in
    let done = c.args.done in
    let honest = g.J.Origin.honest in
    let late = subst (λ (x : Placement). x.epoch ≤ done.epoch) (sym c.self.view_is) c.requires.later in
    let here = earlier honest g.J.Origin.lasts i.epoch done.epoch late in
    let same = subst (λ (x : Placement). done.superstep ≡ x.superstep) (sym c.self.view_is) c.requires.superstep in
    let inside = subst (λ (x : Placement). done.part < length x.spots) (sym c.self.view_is) c.requires.part in
    let below : done.part < length i.part_slots.items = let long = length-map i.part_slots.items spot_of in omega (arith, inside, long) in
    let last : done.epoch ≤ done.epoch = omega arith in
    let slots = λ (k : ℕ). set i.part_slots.items k (Back done) in
    subst (λ (n : ℕ). IsKept g.J.Origin.work honest n i.totals i.aggregates (slots c.part-part.result)) (sym c.epoch-self-inside.ensures)
    (subst (λ (k : ℕ). IsKept g.J.Origin.work honest done.epoch i.totals i.aggregates (slots k)) (sym c.part-part.ensures) (record {
      telling = c.self.invariant.telling;
      sums = λ sure. c.self.invariant.sums (here sure);
      since = λ sure. c.self.invariant.since (here sure);
      aggregators = λ sure. c.self.invariant.aggregators (here sure);
      in_slots = in_slots_set done.epoch i.totals.superstep i.part_slots.items done.part (Back done) below (same, refl, last)
          (in_slots_later i.epoch done.epoch i.totals.superstep i.part_slots.items late c.self.invariant.in_slots);
    }))

pub returns : goal.returns
returns g c =
    let i = c.self.inside in
    let done = c.args.done in
    let spots : spots_of (set i.part_slots.items done.part (Back done)) ≡ set (spots_of i.part_slots.items) done.part Returned = spots_set i.part_slots.items done.part (Back done) in
    rw (c.part-part.ensures, c.epoch-self-inside.ensures) (ap (λ (xs : List Spot). placement_of done.epoch i.totals.superstep i.totals.since xs) spots ∙ ap (λ (x : Placement). returned x done.part done.epoch) c.self.view_is)
