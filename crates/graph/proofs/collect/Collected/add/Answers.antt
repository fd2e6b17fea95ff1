use Rattle.std.proofs.Common.{◌≡◌, ap, of_z, rules, subst, sym, to_z, w64, ◌∙◌}
use Rattle.std.proofs.lemmas.Int.{to_z-of_z}
use Rattle.std.proofs.lemmas.Result.{IfErr-weaker, on_ok_weaker}
use Rattle.graph.specs.declared.line.Line.{Line}
use Rattle.graph.specs.declared.line.Line.TheVariants.{Edge, Vertex}
use Rattle.graph.specs.inside.Collected.{AddsLine, RefusesLine}
use Rattle.graph.proofs.Collecting.{edge_added, edge_refused, vertex_added, vertex_refused}
use Rattle.graph.proofs.collect.Collected.add.Goals as goal

pub returns-in-Vertex-clause-says : goal.returns-in-Vertex-clause-says
returns-in-Vertex-clause-says c =
    let old = c.args.self.now in
    let new = c.add_vertex.new.self in
    let value = to_z w64 (of_z w64 c.in-Vertex.value) in
    let same : value ≡ c.in-Vertex.value = search (rules, to_z-of_z) in
    let is : Vertex c.in-Vertex.id value ≡ c.args.line = ap (Vertex c.in-Vertex.id) same ∙ sym c.in-Vertex.is in
    on_ok_weaker c.add_vertex.result (λ adds. subst (λ (line : Line). AddsLine line old new) is
    (vertex_added c.in-Vertex.id value c.new-edges.result.items old new c.new-edges.ensures.items adds)) c.add_vertex.ensures.added

pub returns-in-Vertex-clause-only : goal.returns-in-Vertex-clause-only
returns-in-Vertex-clause-only c =
    let old = c.args.self.now in
    IfErr-weaker c.add_vertex.result _ _ (λ told full known. subst (λ (line : Line). RefusesLine line old) (sym c.in-Vertex.is)
    (vertex_refused c.in-Vertex.id c.in-Vertex.value old (full known))) c.add_vertex.ensures.only

pub returns-in-Edge-clause-says : goal.returns-in-Edge-clause-says
returns-in-Edge-clause-says c =
    let old = c.args.self.now in
    let new = c.add_edge.new.self in
    let value = to_z w64 (of_z w64 c.in-Edge.value) in
    let same : value ≡ c.in-Edge.value = search (rules, to_z-of_z) in
    let is : Edge c.in-Edge.from c.in-Edge.target value ≡ c.args.line =
    ap (Edge c.in-Edge.from c.in-Edge.target) same ∙ sym c.in-Edge.is in
    on_ok_weaker c.add_edge.result (λ adds. subst (λ (line : Line). AddsLine line old new) is
    (edge_added c.in-Edge.from c.in-Edge.target value old new adds)) c.add_edge.ensures.added

pub returns-in-Edge-clause-only : goal.returns-in-Edge-clause-only
returns-in-Edge-clause-only c =
    let old = c.args.self.now in
    IfErr-weaker c.add_edge.result _ _ (λ told full known. subst (λ (line : Line). RefusesLine line old) (sym c.in-Edge.is)
    (edge_refused c.in-Edge.from c.in-Edge.target c.in-Edge.value old (full known))) c.add_edge.ensures.only
