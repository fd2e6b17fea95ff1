use Rattle.std.proofs.Common.{◌≡◌, ◌<◌, ◌+◌, ◌++◌, ◌∷◌, [], length, get_or, ap, sym, ◌∙◌, arith, append_assoc}
use Rattle.std.proofs.Math.Seq.{get_or-append_seam}
use Rattle.std.proofs.lemmas.List.{get_or_default, length-append}
use Rattle.std.proofs.lemmas.List.FromFn.{map-range_with_len_more}
use Rattle.superstep.proofs.slice.label.Goals as goal

pub invariant_of-push : goal.invariant_of-push
invariant_of-push g c =
    let all : c.loop-vertices.yielded ++ c.in-Some.vertices ∷ c.next.new.self.rest.items ≡ c.args.cut.items =
    ap (λ xs. c.loop-vertices.yielded ++ xs) (sym c.in-Some.ensures.steps.0) ∙ c.loop-vertices.invariant.left in
    let below : c.loop-vertices.part < length c.args.cut.items =
    omega (arith, c.loop-vertices.invariant.counted, ap length all, length-append c.loop-vertices.yielded (c.in-Some.vertices ∷ c.next.new.self.rest.items)) in
    let here : get_or c.args.cut.items c.loop-vertices.part c.in-Some.vertices ≡ c.in-Some.vertices =
    rw (← all, c.loop-vertices.invariant.counted) (get_or-append_seam c.loop-vertices.yielded c.in-Some.vertices c.next.new.self.rest.items c.in-Some.vertices) in
    let states : get_or c.args.cut.items c.loop-vertices.part [] ≡ c.in-Some.vertices =
    get_or_default c.args.cut.items c.loop-vertices.part [] c.in-Some.vertices below ∙ here in
    rw (← states) (c.requires.parts c.loop-vertices.part below)

pub loop-vertices-preserved : goal.loop-vertices-preserved
loop-vertices-preserved g c =
    let yielded = c.loop-vertices.yielded in
    record {
      named =
          c.in_ok-push.ensures.items
          ∙ ap (λ xs. xs ++ record { epoch = c.args.epoch; superstep = c.args.superstep; part = c.loop-vertices.part } ∷ []) c.loop-vertices.invariant.named
          ∙ sym (map-range_with_len_more (λ part. record { epoch = c.args.epoch; superstep = c.args.superstep; part = part }) 0 c.loop-vertices.part c.loop-vertices.part (omega arith));
      counted = ap (λ n. n + 1) c.loop-vertices.invariant.counted ∙ sym (length-append yielded (c.in-Some.vertices ∷ []));
      left =
          append_assoc yielded (c.in-Some.vertices ∷ []) c.next.new.self.rest.items
          ∙ ap (λ xs. yielded ++ xs) (sym c.in-Some.ensures.steps.0) ∙ c.loop-vertices.invariant.left;
    }
