use Rattle.std.proofs.Common.{◌≡◌, ◌+◌, ℕ, ℤ, List, [], ◌∷◌, ◌++◌, map, take, get_or, ap, sym, ◌∙◌, rules}
use Rattle.std.specs.Borrow.{Bor}
use Rattle.std.proofs.lemmas.List.{map-append, map_more, take_all}
use Rattle.job_state.specs.declared.state.VertexState.{VertexState}
use Rattle.superstep.specs.Ending.{states_values}
use Rattle.superstep.proofs.ending.values_of.Goals as goal

abbrev value_of : VertexState → ℕ × ℤ
value_of vertex = (vertex.id, vertex.value)

abbrev values_at : List (Bor VertexState) → List (ℕ × ℤ)
values_at vertices = states_values (map (λ vertex. vertex.now) vertices)

pub loop-vertex-preserved : goal.loop-vertex-preserved
loop-vertex-preserved c =
    let vertices = c.args.vertices.now in
    let index = c.loop-vertex.vertex-index in
    let vertex = c.vertex-item.result in
    let state = λ (v : Bor VertexState). v.now in
    let before = map state (take index vertices) in
    let more : values_at (take (index + 1) vertices) ≡ values_at (take index vertices) ++ value_of (get_or vertices index vertex).now ∷ [] =
    ap states_values (map_more state vertices index vertex c.loop-vertex-test.true) ∙ map-append value_of before ((get_or vertices index vertex).now ∷ []) in
    let pushed : c.push.new.self.items ≡ c.loop-vertex.values.items ++ value_of vertex.now ∷ [] = search rules in
    pushed ∙ ap (λ values. values ++ value_of vertex.now ∷ []) c.loop-vertex.invariant
    ∙ ap (λ (v : Bor VertexState). values_at (take index vertices) ++ value_of v.now ∷ []) c.vertex-item.is ∙ sym more

pub returns : goal.returns
returns c = c.loop-vertex.invariant ∙ ap values_at (take_all c.loop-vertex.vertex-index c.args.vertices.now c.loop-vertex-test.false)
