use Rattle.std.proofs.Common.{◌≡◌, ◌<◌, ◌++◌, ◌∷◌, [], List, length, get_or, true, ap, append_assoc, map, sym, ◌∙◌, subst, arith}
use Rattle.std.proofs.Math.Seq.{get_or-append_seam}
use Rattle.std.proofs.lemmas.List.{append-nil, length-append, map-append, nil_from_length}
use Rattle.job_state.specs.Stamps.{DoneStamp}
use Rattle.book.specs.declared.part_slots.PartSlot.{PartSlot}
use Rattle.book.specs.declared.part_slots.PartSlot.TheVariants.{Back}
use Rattle.book.specs.inside.PartSlots.{is_back}
use Rattle.book.proofs.part_slots.dones_of.Goals as goal

pub done_of-requires : goal.done_of-requires
done_of-requires g c =
    let yielded = c.loop-slot.yielded in
    let slot = c.in-Some.slot in
    let all : yielded ++ slot ∷ c.next.new.self.rest.items ≡ c.args.part_slots.items = ap (λ xs. yielded ++ xs) (sym c.in-Some.ensures.steps.0) ∙ c.loop-slot.invariant.left in
    let here : get_or c.args.part_slots.items (length yielded) slot ≡ slot = rw (← all) (get_or-append_seam yielded slot c.next.new.self.rest.items slot) in
    let below : length yielded < length c.args.part_slots.items = omega (arith, ap length all, length-append yielded (slot ∷ c.next.new.self.rest.items)) in
    subst (λ x. is_back x ≡ true) here (c.requires (length yielded) slot below)

pub returns : goal.returns
returns g c =
    let none : c.loop-slot.slot-iterator.rest.items ≡ [] = nil_from_length _ (omega (arith, c.in-None.ensures.steps.0, c.loop-slot.slot-iterator.rest.ok.0)) in
    c.loop-slot.invariant.back ∙ sym (append-nil c.loop-slot.yielded) ∙ ap (λ xs. c.loop-slot.yielded ++ xs) (sym none) ∙ c.loop-slot.invariant.left

-- one more result
back_more : {J : _} (dones pushed : List DoneStamp) (done : DoneStamp) (yielded : List (PartSlot J)) (slot : PartSlot J) → pushed ≡ dones ++ done ∷ [] → slot ≡ Back done
    → map Back dones ≡ yielded → map Back pushed ≡ yielded ++ slot ∷ []
back_more dones pushed done yielded slot items is so_far =
    ap (map Back) items ∙ map-append Back dones (done ∷ []) ∙ (λ i. so_far i ++ sym is i ∷ [])

pub loop-slot-preserved : goal.loop-slot-preserved
loop-slot-preserved g c =
    let yielded = c.loop-slot.yielded in
    let slot = c.in-Some.slot in
    let all : yielded ++ slot ∷ c.next.new.self.rest.items ≡ c.args.part_slots.items = ap (λ xs. yielded ++ xs) (sym c.in-Some.ensures.steps.0) ∙ c.loop-slot.invariant.left in
    record {
      back = back_more c.loop-slot.dones.items c.push.new.self.items c.done_of.result yielded slot c.in_ok-push.ensures.items c.done_of.ensures c.loop-slot.invariant.back;
      left = append_assoc yielded (slot ∷ []) c.next.new.self.rest.items ∙ all;
    }
