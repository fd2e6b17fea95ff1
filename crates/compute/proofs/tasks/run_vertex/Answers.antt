use Rattle.std.proofs.Common.{◌∙◌, ◌≡◌, ◌⊎◌, inl, inr, ◌<◌, true, length, refl, arith, w64, to_z, of_z}
use Rattle.std.proofs.lemmas.Int.{ints}
use Rattle.semantics.specs.Call.{shown}
use Rattle.graph.specs.Entry.{entry_of}
use Rattle.superstep.specs.Superstep.{idle}
use Rattle.superstep.specs.inside.Called.{row_of}
use Rattle.compute.proofs.PartCalls.{adds_idle}
use Rattle.job_state.proofs.Tests.{test_false, test_true}
use Rattle.superstep.proofs.VertexCalls.{call_keeps, call_told, called_true, idle_stays, idle_told, targets_small}
use Rattle.compute.proofs.tasks.run_vertex.Goals as goal
use Rattle.compute.proofs.tasks.run_vertex.Goals.{else-not-vertex-via-then-not-vertex+else-is_empty, else-not-vertex-via-else-not-vertex}

pub returns-then-is_empty-clause-calls : goal.returns-then-is_empty-clause-calls
returns-then-is_empty-clause-calls c =
    let vertex = c.args.vertex.now in
    let entry = entry_of c.args.entry.now in
    let empty = test_true c.as_slice.result.now vertex.inbox c.is_empty.result c.as_slice.ensures c.is_empty.ensures c.if-is_empty.true in
    record {
      outcome = idle (row_of entry vertex);
      is = λ outcomes tells. idle_told outcomes c.args.shared.now (row_of entry vertex) c.if-not-vertex.true empty;
      vertex = idle_stays entry vertex c.if-not-vertex.true empty;
      adds = adds_idle (row_of entry vertex) vertex.id c.args.left.now;
    }

pub run-requires-clause-ids : goal.run-requires-clause-ids
run-requires-clause-ids c = record {
  id = omega arith;
  targets = targets_small c.args.entry.now.edges.items c.deref.result.now c.deref.ensures.value c.requires.proper.targets;
}

pub returns-clause-calls : goal.returns-clause-calls
returns-clause-calls c =
    let vertex = c.args.vertex.now in
    let shared = c.args.shared.now in
    let row = row_of (entry_of c.args.entry.now) vertex in
    let read : to_z w64 (of_z w64 vertex.value) ≡ vertex.value = omega (arith, ints) in
    let written : to_z w64 (of_z w64 c.in_ok-outcome.outcome.value) ≡ c.in_ok-outcome.outcome.value = omega (arith, ints) in
    let which : (vertex.active ≡ true) ⊎ (0 < length vertex.inbox) = elim c.else-not-vertex.branch [
      | else-not-vertex-via-then-not-vertex+else-is_empty w ↦
          inr (test_false w.as_slice.result.now vertex.inbox w.is_empty.result w.as_slice.ensures w.is_empty.ensures w.if-is_empty.false)
      | else-not-vertex-via-else-not-vertex w ↦ inl w.if-not-vertex.false
    ] in
    record {
      outcome = shown c.in_ok-outcome.outcome;
      is = λ outcomes tells.
          call_told shared.verified.now outcomes shared row
          (record {
            id = vertex.id;
            superstep = shared.superstep;
            count = shared.count;
            value = to_z w64 (of_z w64 vertex.value);
            messages = c.as_slice-2.result;
            edges = c.deref.result;
            aggregated = shared.aggregated;
          })
          c.in_ok-outcome.outcome tells c.in_ok-outcome.ensures.outcome
          (record {
            id = refl;
            superstep = refl;
            count = refl;
            value = read;
            messages = c.as_slice-2.ensures;
            edges = c.deref.ensures.value;
            aggregated = refl;
          })
          (called_true row which);
      vertex = c.fill.ensures ∙ call_keeps vertex.id _ _ (shown c.in_ok-outcome.outcome) written c.empty.ensures;
      adds = c.in_ok-add.ensures;
    }
