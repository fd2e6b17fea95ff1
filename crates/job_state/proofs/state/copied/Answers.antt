use Rattle.std.proofs.Common.{◌∙◌, ◌++◌, ◌∷◌, [], sym}
use Rattle.std.proofs.lemmas.List.{take_all, take_more}
use Rattle.job_state.proofs.state.copied.Goals as goal

pub loop-vertex-preserved : goal.loop-vertex-preserved
loop-vertex-preserved c =
    let same = c.in_ok-copy.ensures ∙ c.vertex-item.is in
    c.in_ok-push.ensures.items
    ∙ (λ i. c.loop-vertex.invariant i ++ same i ∷ [])
    ∙ sym (take_more c.args.vertices.now c.loop-vertex.vertex-index c.vertex-item.result c.loop-vertex-test.true)

pub returns : goal.returns
returns c = c.loop-vertex.invariant ∙ take_all c.loop-vertex.vertex-index c.args.vertices.now c.loop-vertex-test.false
