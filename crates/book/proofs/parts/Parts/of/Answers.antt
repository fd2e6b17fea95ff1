use Rattle.std.proofs.Common.{map, ap, ◌∙◌, refl}
use Rattle.book.specs.declared.part_slots.PartSlot.TheVariants.{Here}
use Rattle.book.proofs.InSlots.{in_slots_home, spots_home}
use Rattle.book.proofs.parts.Parts.of.Goals as goal

pub invariant_of-result : goal.invariant_of-result
invariant_of-result g c =
    let apart = c.in_ok-totals.ensures in
    let of = apart.of in
    record {
      telling = apart.totals;
      sums = λ sure. apart.at g.J.Origin.work (c.requires.at sure).at;
      since = λ sure. of.since ∙ (c.requires.at sure).since;
      aggregators = λ sure. rw (of.superstep, apart.aggregates) (λ meaning. ((c.requires.at sure).at meaning).aggregates);
      in_slots = rw of.superstep (in_slots_home c.in_ok-part_slots.part_slots.items c.args.epoch c.args.state.superstep c.args.job.now.settings.parts (c.in_ok-part_slots.ensures ∙ ap (λ xs. map Here xs) apart.slices));
    }

pub returns : goal.returns
returns g c =
    let apart = c.in_ok-totals.ensures in
    let of = apart.of in
    rw (of.superstep, of.since, spots_home c.in_ok-part_slots.part_slots.items c.args.epoch c.args.state.superstep c.args.job.now.settings.parts (c.in_ok-part_slots.ensures ∙ ap (λ xs. map Here xs) apart.slices)) refl
