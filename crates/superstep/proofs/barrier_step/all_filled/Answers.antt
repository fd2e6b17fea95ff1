use Rattle.std.proofs.Common.{◌≡◌, ℤ, List, [], ◌∷◌, Global, Vec, length, map, vec_items, refl, ap, subst, ◌∙◌}
use Rattle.std.specs.List.{AllZip, zip}
use Rattle.rayon.specs.Lists.{vec_items as list_of}
use Rattle.inbox.proofs.Collected.{IfOk-from_match, all_collected}
use Rattle.job_state.specs.declared.state.VertexState.{VertexState}
use Rattle.job_state.specs.inside.Filled.{filled}
use Rattle.superstep.specs.inside.Barrier.{all_filled}
use Rattle.superstep.proofs.barrier_step.all_filled.Goals as goal

abbrev Pair : Type 0
Pair = List VertexState × Vec (List ℤ) Global

abbrev IsFilled : Pair → List VertexState → Type 0
IsFilled pair part = length pair.0 ≡ length pair.1.items → part ≡ filled (pair.0, pair.1.items)

pairs_filled : (vertices : List (List VertexState)) (inboxes : List (Vec (List ℤ) Global)) (parts : List (List VertexState))
    → AllZip IsFilled (zip vertices inboxes) parts → map length vertices ≡ map length (map vec_items inboxes)
    → parts ≡ all_filled vertices (map vec_items inboxes)
pairs_filled [] inboxes [] each same = refl
pairs_filled [] inboxes (part ∷ parts) each same = absurd each
pairs_filled (own ∷ vertices) [] parts each same = cc
pairs_filled (own ∷ vertices) (found ∷ inboxes) [] each same = absurd each
pairs_filled (own ∷ vertices) (found ∷ inboxes) (part ∷ parts) each same =
    let first : length own ≡ length found.items = cc in
    let rest : map length vertices ≡ map length (map vec_items inboxes) = cc in
    let here = each.0 first in
    λ i. here i ∷ pairs_filled vertices inboxes parts each.1 rest i

pub returns : goal.returns
returns g c =
    let pairs = c.in_ok-pairs.ensures in
    let listed = ap (λ it. list_of it.base) c.map.ensures.base ∙ ap list_of c.with_min_len.ensures.base ∙ c.into_par_iter.ensures in
    let done = c.in_ok-collect.ensures in
    let chain = done.1 in
    IfOk-from_match c.in_ok-collect.field-0 _ _ _ done.2 (λ parts items same.
    items.2
    ∙ pairs_filled c.args.vertices.items c.args.inboxes.items items.0
    (subst (λ (given : List Pair). AllZip IsFilled given items.0) (chain.1 ∙ listed ∙ pairs) (all_collected IsFilled chain.0 done.0 items.0 chain.2 items.1)) same)
