use Rattle.std.proofs.Common.{◌≡◌, suc, refl, ap, ◌∙◌, ◌+◌, ◌-◌, reverse, arith}
use Rattle.interp.specs.inside.Meaning.{entries_of}
use Rattle.interp.proofs.Stacked.{label_floor, label_off, frame_off, jump_label, labels_label, no_frame, no_end}
use Rattle.interp.proofs.walk.branches.unwind.Goals as goal

pub fall-requires : goal.fall-requires
fall-requires c = label_floor _ _ c.loop.operands.below.values c.args.locals.now.below.values c.in-Some-Label.floor _ _ (rw c.in-Some-Label.field-0-is at c.in-Some-Label.ensures.taken) c.loop.invariant.ordered

pub loop-preserved : goal.loop-preserved
loop-preserved c =
    let vs = c.loop.operands.below.values in
    let ls = c.args.locals.now.below.values in
    let rs = reverse c.loop.entries.items in
    let rs' = reverse c.pop_entry.new.entries.items in
    let s = c.in-Some-Label in
    let off = label_off rs rs' vs c.fall.new.self.below.values ls s.floor s.field-0-0 s.field-0-2 (rw s.field-0-is at s.ensures.taken) c.loop.invariant.ordered (ap (λ b. b.values) c.fall.ensures.below) in
    let n : c.args.labels - c.loop.counter ≡ suc (c.args.labels - (c.loop.counter + 1)) = omega arith in
    record {
      ordered = off.ordered;
      there = labels_label (c.args.labels - c.loop.counter) (c.args.labels - (c.loop.counter + 1)) (entries_of rs vs ls) (entries_of rs' c.fall.new.self.below.values ls) _ _ _ _ n off.entries c.loop.invariant.there;
      jump = λ top st. c.loop.invariant.jump top st ∙ jump_label (c.args.labels - c.loop.counter) (c.args.labels - (c.loop.counter + 1)) top st (entries_of rs vs ls) (entries_of rs' c.fall.new.self.below.values ls) _ _ _ _ n off.entries;
      room = c.pop_entry.ensures.room ∙ c.loop.invariant.room;
      spare = λ h. c.fall.ensures.spare (c.loop.invariant.spare h);
      same = ap (λ b. b.room) c.fall.ensures.below ∙ c.loop.invariant.same;
    }

pub unreachable-requires : goal.unreachable-requires
unreachable-requires c =
    let vs = c.loop.operands.below.values in
    let ls = c.args.locals.now.below.values in
    let s = c.in-Some-Frame in
    let rs = reverse c.loop.entries.items in
    let rs' = reverse c.pop_entry.new.entries.items in
    let off = frame_off rs rs' vs _ ls _ s.field-0-1 s.field-0-2 s.field-0-0 s.field-0-3 (rw s.field-0-is at s.ensures.taken) c.loop.invariant.ordered refl refl in
    let n : c.args.labels - c.loop.counter ≡ suc (c.args.labels - (c.loop.counter + 1)) = omega arith in
    no_frame (c.args.labels - c.loop.counter) (c.args.labels - (c.loop.counter + 1)) (entries_of rs vs ls) _ _ _ _ _ n off.entries c.loop.invariant.there

pub unreachable-requires-in-None : goal.unreachable-requires-in-None
unreachable-requires-in-None c =
    let n : c.args.labels - c.loop.counter ≡ suc (c.args.labels - (c.loop.counter + 1)) = omega arith in
    no_end (c.args.labels - c.loop.counter) (c.args.labels - (c.loop.counter + 1)) (reverse c.loop.entries.items) c.loop.operands.below.values c.args.locals.now.below.values n c.in-None.ensures.taken.0 c.loop.invariant.there
