use Rattle.std.proofs.Common.{◌≡◌, ◌∙◌, ◌+◌, ◌++◌, ◌∷◌, [], add-one, ap, append_assoc, arith, sym}
use Rattle.std.specs.List.{range_with_len}
use Rattle.conversions.proofs.Whole.{range_suc}
use Rattle.conversions.proofs.graph_import.vertices.add_declared.Goals as goal

pub loop-id-preserved : goal.loop-id-preserved
loop-id-preserved c =
    let old = c.args.ids.now.items in
    let id = c.loop-id.id in
    let e : id + 1 ≡ 1 + id = omega arith in
    c.in_ok-push.ensures.items
    ∙ ap (λ ids. ids ++ (id + 1) ∷ []) c.loop-id.invariant
    ∙ append_assoc old (range_with_len 1 id) ((id + 1) ∷ [])
    ∙ ap (λ ids. old ++ ids)
    (ap (λ n. range_with_len 1 id ++ n ∷ []) e ∙ sym (range_suc 1 id) ∙ ap (range_with_len 1) (sym (add-one id)))
