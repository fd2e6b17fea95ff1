-- The parts of a state's vertices are what slices have.
use Rattle.std.proofs.Common.{◌≡◌, ℕ, ◌<◌, Bool, true, false, List, [], map, Some, ap, sym, ◌∙◌}
use Rattle.std.specs.Prelude.{slice_get}
use Rattle.std.specs.Option.{option_map}
use Rattle.std.proofs.lemmas.List.FromFn.{length-map-range_with_len}
use Rattle.std.proofs.lemmas.Option.{slice_get-get_or, slice_get-map}
use Rattle.graph.specs.Entry.{Entry, id_at, ids, part_of_graph, parts_of}
use Rattle.graph.specs.Partition.{part_by}
use Rattle.graph.specs.inside.Partitioned.{part_at, part_by-map}
use Rattle.job_state.specs.declared.state.VertexState.{VertexState}
use Rattle.superstep.specs.PlainRun.{state_at}
use Rattle.superstep.specs.Job.{IsGraphOf, Work}
use Rattle.job_state.specs.State.{Standing, state_id}
use Rattle.superstep.specs.State.{IsStateAt, bare}
use Rattle.superstep.specs.Tasks.{FitsPart, IsPartAt}

pub either_way : (b : Bool) (P : Bool → Type 0) → P true → P false → P b
either_way true P = λ one other. one
either_way false P = λ one other. other

part_ids : (count part : ℕ) (vertices : List VertexState) (graph : List Entry) → map state_id vertices ≡ ids graph
    → map state_id (part_by state_id count vertices part) ≡ ids (part_of_graph count graph part)
part_ids count part vertices graph same =
    part_by-map state_id (λ n. n) count part vertices
    ∙ ap (λ (numbers : List ℕ). part_by (λ n. n) count numbers part) same
    ∙ sym (part_by-map id_at (λ n. n) count part graph)

-- the ids of a part of them are those of the graph's part
pub part_fits : (work : Work) (graph : List Entry) (vertices : List VertexState) (part : ℕ) → IsGraphOf work graph
    → map state_id vertices ≡ ids graph → part < work.settings.parts → FitsPart work part (part_by state_id work.settings.parts vertices part)
part_fits work graph vertices part is same below =
    let count = work.settings.parts in
    slice_get-map ids work.parts part
    ∙ ap (λ (parts : List (List Entry)). option_map ids (slice_get parts part)) is.parts
    ∙ ap (option_map ids) (slice_get-get_or (parts_of count graph) part [] (rw (length-map-range_with_len (part_of_graph count graph) 0 count) below))
    ∙ ap (λ (entries : List Entry). Some (ids entries)) (part_at id_at count graph part [] below)
    ∙ ap Some (sym (part_ids count part vertices graph same))

-- a part of what stands before a superstep
pub part_stands : (work : Work) (state : Standing) (part : ℕ) → IsStateAt work state.superstep state
    → IsPartAt work state.superstep part (part_by state_id work.settings.parts state.vertices part)
part_stands work state part at = λ meaning.
    ap (λ (vertices : List VertexState). part_by state_id work.settings.parts vertices part) (at meaning).vertices
    ∙ sym (part_by-map bare state_id work.settings.parts part (state_at meaning.outcomes meaning.graph state.superstep).rows)
