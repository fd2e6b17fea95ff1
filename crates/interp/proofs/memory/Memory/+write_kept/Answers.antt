use Rattle.std.proofs.Common.{◌≡◌, ◌+◌, ◌≤◌, length, sym, ap, ◌∙◌, subst, arith}
use Rattle.interp.specs.inside.Kept.{is_kept, laid_over}
use Rattle.semantics.specs.inside.Touched.{marks}
use Rattle.interp.proofs.Kept.{all_marked, before_grows, joined, laid_both, length-kept, length-laid_over, length-marks, none_marked, past_bytes}
use Rattle.interp.proofs.memory.Memory.+write_kept.Goals.{else-count-gt0-via-else-count-gt0, else-count-gt0-via-then-count-gt0+else-start-len, else-count-others-via-else-count-others, else-count-others-via-then-count-others+else-start-count}
use Rattle.interp.proofs.memory.Memory.+write_kept.Goals as goal

pub kept_place-start-requires : goal.kept_place-start-requires
kept_place-start-requires t c =
    omega (arith, c.requires, length-kept c.self.inside.verified.now c.self.inside.bytes.items, ap length c.self.view_is)

pub overflow_add-place : goal.overflow_add-place
overflow_add-place t c =
    omega (arith, c.requires, length-kept c.self.inside.verified.now c.self.inside.bytes.items, ap length c.self.view_is, c.kept_place-start.ensures.small)

pub kept_place-requires : goal.kept_place-requires
kept_place-requires t c =
    omega (arith, c.requires, length-kept c.self.inside.verified.now c.self.inside.bytes.items, ap length c.self.view_is)

pub overflow_sub-count : goal.overflow_sub-count
overflow_sub-count t c =
    let g = before_grows (marks c.self.inside.verified.now) c.args.place (length c.args.others.now) in
    omega (arith, c.kept_place-start.ensures.place, c.kept_place.ensures.place, g.0)

pub write-requires-clause-kept : goal.write-requires-clause-kept
write-requires-clause-kept t c =
    let m = c.self.inside.verified.now in
    let bs = c.self.inside.bytes.items in
    let n = length c.args.others.now in
    let g = before_grows (marks m) c.args.place n in
    sym (ap (is_kept c.args.place n) c.self.view_is)
    ∙ all_marked (marks m) bs c.args.place n
    (omega (arith, c.requires, ap length c.self.view_is, length-kept m bs, length-marks m))
    (omega (arith, c.kept_place-start.ensures.place, c.kept_place.ensures.place, g.0, c.if-count-others.true))
    (omega (arith, c.kept_place-start.ensures.place, c.kept_place.ensures.place, g.0, c.if-count-others.true, c.if-start-count.true, c.self.inside.bytes.ok.0))

pub overflow_add-place-else-count-others : goal.overflow_add-place-else-count-others
overflow_add-place-else-count-others t c =
    omega (arith, c.requires, length-kept c.self.inside.verified.now c.self.inside.bytes.items, ap length c.self.view_is, c.kept_place-start.ensures.small, c.split_at.ensures.front_len)

pub write_kept-requires-else-count-others : goal.write_kept-requires-else-count-others
write_kept-requires-else-count-others t c =
    let n = length c.args.others.now in
    let g = before_grows (marks c.self.inside.verified.now) c.args.place n in
    let two : 2 ≤ n = elim c.else-count-others.branch [
      | else-count-others-via-then-count-others+else-start-count w ↦ omega (arith, c.kept_place-start.ensures.place, c.kept_place.ensures.place, g.1, c.if-count-gt0.true, c.if-start-len.true, w.if-count-others.true, w.if-start-count.false)
      | else-count-others-via-else-count-others w ↦ omega (arith, c.kept_place-start.ensures.place, c.kept_place.ensures.place, g.1, c.if-count-gt0.true, w.if-count-others.false)
    ] in (
      omega (arith, two, c.split_at.ensures.front_len, c.split_at.ensures.back_len, c.decreases),
      omega (arith, c.requires, c.split_at.ensures.front_len, c.split_at.ensures.back_len, ap length c.write_kept.ensures.laid, length-laid_over c.args.place c.split_at.result.0.now c.args.self.now),
    )

pub returns-else-count-others-clause-laid : goal.returns-else-count-others-clause-laid
returns-else-count-others-clause-laid t c =
    let front = c.split_at.result.0.now in
    let back = c.split_at.result.1.now in
    let old = c.args.self.now in
    ap (λ l. laid_over c.args.place l old) (sym (joined c.args.others.now front back _ c.split_at.ensures.front c.split_at.ensures.back))
    ∙ sym (laid_both c.args.place front back old)
    ∙ ap (laid_over (c.args.place + length front) back) c.write_kept.ensures.laid
    ∙ c.write_kept-else-count-others.ensures.laid

pub returns-else-count-gt0-clause-laid : goal.returns-else-count-gt0-clause-laid
returns-else-count-gt0-clause-laid t c =
    let m = c.self.inside.verified.now in
    let bs = c.self.inside.bytes.items in
    let others = c.args.others.now in
    let g = before_grows (marks m) c.args.place (length others) in
    subst (λ l. laid_over c.args.place others l ≡ l) c.self.view_is (elim c.else-count-gt0.branch [
      | else-count-gt0-via-then-count-gt0+else-start-len w ↦ past_bytes (marks m) bs c.args.place others (omega (arith, c.kept_place-start.ensures.place, w.if-start-len.false, c.self.inside.bytes.ok.0))
      | else-count-gt0-via-else-count-gt0 w ↦ none_marked (marks m) bs c.args.place others (omega (arith, c.kept_place-start.ensures.place, c.kept_place.ensures.place, g.0, w.if-count-gt0.false))
    ])
