use Rattle.std.proofs.Common.{◌≡◌, length, refl, subst, arith}
use Rattle.bounded_profile.proofs.ReachedExtents.{IsCounted, counted_more, counted_none, counted_all}
use Rattle.bounded_profile.proofs.extents.extents_of.Goals as goal
use Rattle.bounded_profile.proofs.extents.extents_of.Goals.{then-not-is_marked+in_ok-add_extent, else-not-is_marked}

pub loop-byte-preserved : goal.loop-byte-preserved
loop-byte-preserved c =
    let marks = c.args.marks.now in
    let byte = c.loop-byte.byte in
    let known = c.loop-byte.invariant in
    let behind = known.behind in
    let few = known.few in
    elim c.if-not-is_marked.branch [
      | then-not-is_marked+in_ok-add_extent w ↦
          let adds = w.in_ok-add_extent.ensures in
          let ends = adds.up_to.behind in
          rw (w.extents-is, w.from-is, w.below-is)
          (record {
            up_to = record { order = adds.up_to.order; behind = omega (arith, ends); size = adds.up_to.size };
            behind = omega arith;
            few = omega (arith, few, behind);
            counted = counted_none marks c.loop-byte.extents.items w.add_extent.new.extents.items (record { from = c.loop-byte.from; to = byte; below = c.loop-byte.below }) byte refl behind w.if-not-is_marked.true adds known.counted;
          })
      | else-not-is_marked w ↦
          rw (w.extents-is, w.from-is, w.below-is)
          (record {
            up_to = known.up_to;
            behind = omega (arith, behind);
            few = few;
            counted = counted_more marks c.loop-byte.extents.items c.loop-byte.from byte behind w.if-not-is_marked.false known.counted;
          })
    ]

pub returns : goal.returns
returns c =
    let marks = c.args.marks.now in
    let known = c.loop-byte.invariant in
    let behind = known.behind in
    let ends : c.loop-byte.byte ≡ length marks = omega (arith, c.loop-byte-test.false, c.loop-byte.auto.byte-end) in
    counted_all marks c.loop-byte.extents.items c.add_extent-2.new.extents.items (record { from = c.loop-byte.from; to = length marks; below = c.loop-byte.below }) refl (omega (arith, ends, behind)) c.in_ok-add_extent-2.ensures (subst (IsCounted marks c.loop-byte.extents.items c.loop-byte.from) ends known.counted)
