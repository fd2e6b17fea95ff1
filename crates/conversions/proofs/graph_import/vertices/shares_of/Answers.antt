use Rattle.std.proofs.Common.{◌≡◌, ◌∙◌, ◌++◌, ◌∷◌, [], FitsSigned, ap, get_or, map, of_z, pos, sym, take, to_z, w64, ℤ}
use Rattle.std.specs.Option.{unwrap_or}
use Rattle.std.proofs.lemmas.Int.{to_z-of_z}
use Rattle.std.proofs.lemmas.List.{map_more}
use Rattle.graph.specs.declared.vertex.Edge.{Edge}
use Rattle.conversions.specs.graph_import.Graph.{count_from, share_of, shared}
use Rattle.conversions.proofs.graph_import.vertices.shares_of.Goals as goal

abbrev with_share : Edge → ℤ → Edge
with_share edge share = record { from = edge.from; target = edge.target; value = share }

pub loop-edge-preserved : goal.loop-edge-preserved
loop-edge-preserved c =
    let edges = c.args.edges.now in
    let i = c.loop-edge.edge-index in
    let edge = get_or edges i (record { from = 0; target = 0; value = pos 0 }) in
    let share = c.share_of.result in
    let counted : c.unwrap_or-count.result ≡ count_from edges edge.from =
    c.unwrap_or-count.ensures ∙ ap (λ found. unwrap_or found 0) (c.copied.ensures ∙ c.get.ensures.value) ∙ c.in_ok-counts.ensures edge.from in
    let fits : FitsSigned w64 share = record { sfits = c.share_of.type_inv } in
    let value : to_z w64 (of_z w64 share) ≡ share_of (count_from edges edge.from) =
    to_z-of_z w64 share fits ∙ c.share_of.ensures ∙ ap share_of counted in
    c.in_ok-push.ensures.items
    ∙ ap (λ shares. shares ++ with_share edge (to_z w64 (of_z w64 share)) ∷ []) c.loop-edge.invariant
    ∙ ap (λ v. map (shared edges) (take i edges) ++ with_share edge v ∷ []) value
    ∙ sym (map_more (shared edges) edges i _ c.loop-edge-test.true)
