-- The vertices of a job before superstep 0.
use Rattle.std.proofs.Common.{◌≡◌, ℕ, ◌<◌, List, [], ◌∷◌, map, refl, ap, sym, ◌∙◌, subst, arith}
use Rattle.std.specs.List.Sorted.{IsStrictlyIncreasing}
use Rattle.std.proofs.lemmas.List.Sorted.{IsPermutation-map}
use Rattle.semantics.specs.Call.{Outcome}
use Rattle.semantics.specs.Outcomes.{Given}
use Rattle.graph.specs.Entry.{Entry, ids}
use Rattle.graph.specs.Partition.{joined}
use Rattle.superstep.specs.Job.{IsGraphOf, Work}
use Rattle.verified.specs.Aggregators.{aggregator_starts}
use Rattle.job_state.specs.Ordering.{by_key}
use Rattle.job_state.specs.State.{IsState, Standing, in_order, state_id}
use Rattle.superstep.specs.State.{ShowsAt, bare}
use Rattle.superstep.specs.PlainRun.{first_row, state_at}
use Rattle.superstep.specs.inside.Rows.{first_vertex, first_vertices}
use Rattle.superstep.proofs.Graphs.{few_states, whole}
use Rattle.superstep.proofs.Letters.{joined_map}
use Rattle.job_state.proofs.Ordering.{by_key_is}

pub first_ids : (graph : List Entry) → map state_id (first_vertices graph) ≡ ids graph
first_ids [] = refl
first_ids (entry ∷ graph) = ap (λ xs. entry.id ∷ xs) (first_ids graph)

pub first_rows : (graph : List Entry) → first_vertices graph ≡ map bare (map first_row graph)
first_rows [] = refl
first_rows (entry ∷ graph) = ap (λ xs. first_vertex entry ∷ xs) (first_rows graph)

pub parts_ids : (parts : List (List Entry)) → map (map state_id) (map first_vertices parts) ≡ map ids parts
parts_ids [] = refl
parts_ids (part ∷ parts) = ap (λ xs. xs ∷ map (map state_id) (map first_vertices parts)) (first_ids part) ∙ ap (λ rest. ids part ∷ rest) (parts_ids parts)

-- those of all parts, by rising id, are those of the graph
pub firsts_in_order : (work : Work) (graph : List Entry) → 0 < work.settings.parts → IsGraphOf work graph
    → in_order (map first_vertices work.parts) ≡ first_vertices graph
firsts_in_order work graph some is =
    ap (by_key state_id) (joined_map first_vertex work.parts)
    ∙ by_key_is state_id (first_vertices (joined work.parts)) (first_vertices graph)
    (IsPermutation-map first_vertex (joined work.parts) graph (whole work graph some is))
    (subst (λ (numbers : List ℕ). IsStrictlyIncreasing numbers) (sym (first_ids graph)) is.proper.rising)

-- A state before superstep 0.
pub record IsFirst (graph : List Entry) (state : Standing) : Type 0 where
  pub superstep : state.superstep ≡ 0
  pub since : state.since ≡ 0
  pub by_superstep : state.by_superstep ≡ []
  pub units : state.units ≡ 0
  pub dropped : state.dropped ≡ 0
  pub aggregates : state.aggregates ≡ aggregator_starts
  pub vertices : state.vertices ≡ first_vertices graph

pub first_is_state : (work : Work) (graph : List Entry) (state : Standing) → IsGraphOf work graph → IsFirst graph state → IsState state
first_is_state work graph state of is = record {
  rising = rw (is.vertices, first_ids graph) of.proper.rising;
  few = few_states graph state.vertices of.limits (ap (map state_id) is.vertices ∙ first_ids graph);
  told = rw (is.superstep, is.since, is.by_superstep) refl;
  least = rw (is.by_superstep, is.units) (omega arith);
  all = λ since. rw (is.by_superstep, is.units) refl;
}

pub first_shows : (outcomes : Given → Outcome) (graph : List Entry) (state : Standing) → IsFirst graph state → ShowsAt outcomes graph 0 state
unfolding state_at
first_shows outcomes graph state is = record {
  superstep = is.superstep;
  vertices = is.vertices ∙ first_rows graph;
  aggregates = is.aggregates;
  units = is.units;
  dropped = is.dropped;
  by_superstep = is.by_superstep ∙ rw is.since refl;
}
