use Rattle.std.proofs.Common.{sym, arith}
use Rattle.verified.proofs.ReachedExtents.{few, none_before, last_before}
use Rattle.verified.proofs.extents.bytes_below.Goals as goal

pub returns-then-count-eq0 : goal.returns-then-count-eq0
returns-then-count-eq0 c =
    sym (none_before c.args.extents.now c.args.byte c.extents_up_to-count.result c.requires c.extents_up_to-count.ensures (omega (arith, c.if-count-eq0.true)))

pub overflow_sub-result : goal.overflow_sub-result
overflow_sub-result c =
    let last = last_before c.args.extents.now c.args.byte c.extents_up_to-count.result (record { from = 0; to = 0; below = 0 }) c.requires c.extents_up_to-count.ensures (omega (arith, c.if-count-eq0.false)) in
    let ends = last.0 in
    let begins = last.1 in
    omega (arith, c.min.ensures, ends, begins)

pub overflow_add-result : goal.overflow_add-result
overflow_add-result c =
    let last = last_before c.args.extents.now c.args.byte c.extents_up_to-count.result (record { from = 0; to = 0; below = 0 }) c.requires c.extents_up_to-count.ensures (omega (arith, c.if-count-eq0.false)) in
    let sum = last.2 in
    let all = few c.args.extents.now 0 0 c.args.byte c.requires in
    omega (arith, c.min.ensures, sum, all, c.ranges.byte.fits)

pub returns : goal.returns
returns c =
    let last = last_before c.args.extents.now c.args.byte c.extents_up_to-count.result (record { from = 0; to = 0; below = 0 }) c.requires c.extents_up_to-count.ensures (omega (arith, c.if-count-eq0.false)) in
    let sum = last.2 in
    omega (arith, c.min.ensures, sum)
