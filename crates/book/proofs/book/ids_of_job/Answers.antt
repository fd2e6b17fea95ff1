use Rattle.std.proofs.Common.{ℕ, Bor, sym, ap, ◌∙◌, map}
use Rattle.std.proofs.lemmas.Simd.{map-map}
use Rattle.std.proofs.lemmas.Result.{IfOk-weaker}
use Rattle.job_state.specs.State.{state_id}
use Rattle.job_state.specs.declared.state.VertexState.{VertexState}
use Rattle.book.proofs.Opening.{first_ids}
use Rattle.book.proofs.book.ids_of_job.Goals as goal

abbrev now : Bor VertexState → VertexState
now vertex = vertex.now

abbrev id_of : Bor VertexState → ℕ
id_of vertex = state_id vertex.now

pub returns : goal.returns
returns c =
    let job = c.args.job.now in
    let state = c.in_ok-state.state in
    IfOk-weaker c.ids_of.result _ _
    (λ ids are. first_ids job state ids.items c.settings.ensures.graph
    (are ∙ ap (map id_of) c.deref.ensures.value ∙ sym (map-map state_id now c.in_ok-vertices.vertices.items) ∙ ap (map state_id) c.in_ok-vertices.ensures.same)
    c.in_ok-state.ensures.ids)
    c.ids_of.ensures
