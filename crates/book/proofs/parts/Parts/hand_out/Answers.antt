use Rattle.std.proofs.Common.{◌≡◌, ◌<◌, ◌≤◌, List, length, true, sym, ap, ◌∙◌, subst, arith}
use Rattle.std.proofs.lemmas.List.{length-map}
use Rattle.std.proofs.Math.ListN.{set}
use Rattle.book.specs.declared.part_slots.PartSlot.TheVariants.{Here}
use Rattle.book.specs.inside.Parts.{IsHome, Placement, Spot, moved}
use Rattle.book.specs.inside.Parts.Spot.{Gone}
use Rattle.book.specs.inside.PartSlots.{IsInSlot, is_here, spot_of, spots_of}
use Rattle.superstep.proofs.Trusting.{earlier}
use Rattle.book.proofs.InSlots.{in_slots_set, slot_here, placement_of, spots_set}
use Rattle.book.proofs.parts.Parts.hand_out.Given.{Over}
use Rattle.book.proofs.parts.Parts.hand_out.Goals as goal

pub index_mut-requires : goal.index_mut-requires
index_mut-requires g c =
    let i = c.self.inside in
    let h = subst (λ (x : Placement). IsHome x c.args.part) (sym c.self.view_is) c.requires.home in
    let below = h.0 in let long = length-map i.part_slots.items spot_of in let kept = i.part_slots.ok.0 in
    omega (arith, below, long, kept)

pub slice_of-requires : goal.slice_of-requires
slice_of-requires g c =
    let i = c.self.inside in
    let h = subst (λ (x : Placement). IsHome x c.args.part) (sym c.self.view_is) c.requires.home in
    subst (λ x. is_here x ≡ true) (sym (c.replace-slot.ensures.value ∙ c.index_mut.ensures.value)) (slot_here i.part_slots.items c.args.part c.index_mut.result.now h)

pub new-requires : goal.new-requires
new-requires g c = λ sure.
    let i = c.self.inside in
    let h = subst (λ (x : Placement). IsHome x c.args.part) (sym c.self.view_is) c.requires.home in
    let below = h.0 in let long = length-map i.part_slots.items spot_of in
    let at = subst (λ x. IsInSlot i.epoch i.totals.superstep c.args.part x) (sym (c.replace-slot.ensures.value ∙ c.index_mut.ensures.value) ∙ c.slice_of.ensures) (c.self.invariant.in_slots c.args.part c.index_mut.result.now (omega (arith, below, long))) in
    let honest = g.J.Origin.honest in
    let late = subst (λ (x : Placement). x.epoch ≤ c.args.epoch) (sym c.self.view_is) c.requires.later in
    let here = earlier honest g.J.Origin.lasts i.epoch c.args.epoch late sure in
    (earlier honest g.J.Origin.lasts c.slice_of.result.epoch i.epoch at.2 here, rw at.0 (c.self.invariant.aggregators here))

pub returns-clause-after : goal.returns-clause-after
returns-clause-after g c =
    let i = c.self.inside in
    let part = c.args.part in
    let left = c.replace-slot.new.dest in
    let spots : spots_of (set i.part_slots.items part left) ≡ set (spots_of i.part_slots.items) part Gone = spots_set i.part_slots.items part left ∙ ap (λ x. set (spots_of i.part_slots.items) part (spot_of x)) c.replace-slot.ensures.after in
    ap (λ (xs : List Spot). placement_of i.epoch i.totals.superstep i.totals.since xs) spots ∙ ap (λ (x : Placement). moved x part Gone) c.self.view_is

pub invariant_of-self : goal.invariant_of-self
invariant_of-self g c =
    let i = c.self.inside in
    let part = c.args.part in
    let home = subst (λ (x : Placement). IsHome x part) (sym c.self.view_is) c.requires.home in
    let below : part < length i.part_slots.items = let inside = home.0 in let long = length-map i.part_slots.items spot_of in omega (arith, inside, long) in
    let away = subst (IsInSlot i.epoch i.totals.superstep part) (sym c.replace-slot.ensures.after) tt in
    record {
      telling = c.self.invariant.telling;
      sums = c.self.invariant.sums;
      since = c.self.invariant.since;
      aggregators = c.self.invariant.aggregators;
      in_slots = in_slots_set i.epoch i.totals.superstep i.part_slots.items part c.replace-slot.new.dest below away c.self.invariant.in_slots;
    }

-- the slice that was in the slot
slice_in : (g : Over) (c : goal.After-new g) → IsInSlot {J = g.row.J.Denot} c.self.inside.epoch c.self.inside.totals.superstep c.args.part (Here c.slice_of.result)
slice_in g c =
    let i = c.self.inside in
    let home = subst (λ (x : Placement). IsHome x c.args.part) (sym c.self.view_is) c.requires.home in
    let below : c.args.part < length i.part_slots.items = let inside = home.0 in let long = length-map i.part_slots.items spot_of in omega (arith, inside, long) in
    subst (IsInSlot i.epoch i.totals.superstep c.args.part) (sym (c.replace-slot.ensures.value ∙ c.index_mut.ensures.value) ∙ c.slice_of.ensures)
    (c.self.invariant.in_slots c.args.part c.index_mut.result.now below)

pub returns-clause-superstep : goal.returns-clause-superstep
returns-clause-superstep g c = c.new.ensures.superstep ∙ (slice_in g c).0 ∙ ap (λ (x : Placement). x.superstep) c.self.view_is

pub returns-clause-part : goal.returns-clause-part
returns-clause-part g c = c.new.ensures.part ∙ (slice_in g c).1
