use Rattle.std.proofs.Common.{◌≡◌, get_or, of_z, refl, rules, to_z, w64}
use Rattle.std.proofs.lemmas.Int.{to_z-of_z}
use Rattle.std.proofs.lemmas.List.{get_or_default}
use Rattle.graph.proofs.Vertices.{edge_pushed}
use Rattle.graph.proofs.place.push_edge.Goals as goal

pub returns : goal.returns
returns c =
    let vertices = c.args.vertices.now in
    let old = get_or vertices c.args.source c.index-vertices-source.result in
    let fits : to_z w64 (of_z w64 c.args.edge.value) ≡ c.args.edge.value = search (rules, to_z-of_z) in
    edge_pushed vertices c.args.source old _ c.args.edge c.requires (get_or_default vertices c.args.source c.index-vertices-source.result old c.requires) refl refl (rw fits at c.in_ok-push.ensures.items)
