-- The input of a vertex's call, and its outcome, as the code has them.
use Rattle.std.specs.Prelude.{◌≡◌, if◌then◌else◌}
use Rattle.std.specs.List.{All}
use Rattle.wasm_ast.specs.declared.module.Module.{Module}
use Rattle.verified.specs.declared.call.CallInput.{CallInput}
use Rattle.verified.specs.declared.call.CallOutcome.{CallOutcome}
use Rattle.semantics.specs.Call.{IsOutcome, Outcome, shown}
use Rattle.semantics.specs.Outcomes.{Given, given_of}
use Rattle.graph.specs.Entry.{Entry, is_in_range}
use Rattle.job_state.specs.declared.state.VertexState.{VertexState}
use Rattle.superstep.specs.declared.task.Shared.{Shared}
use Rattle.superstep.specs.Snapshot.{Row, is_called}
use Rattle.superstep.specs.Superstep.{idle}

-- the id and the targets are in range
pub record HasProperIds (entry : Entry) : Type 0 where
  pub id : is_in_range entry.id
  pub targets : All (λ edge. is_in_range edge.0) entry.edges

-- a vertex with its edges
abbrev pub row_of : Entry → VertexState → Row
row_of entry vertex = record { id = vertex.id; value = vertex.value; edges = entry.edges; active = vertex.active; inbox = vertex.inbox }

-- the input of its call
abbrev pub given_in : Shared → Row → Given
given_in shared row = record {
  id = row.id;
  superstep = shared.superstep;
  count = shared.count;
  value = row.value;
  messages = row.inbox;
  edges = row.edges;
  aggregated = shared.aggregated;
}

-- the outcome of a vertex
abbrev pub left_in : (Given → Outcome) → Shared → Row → Outcome
left_in outcomes shared row = if is_called row then outcomes (given_in shared row) else idle row

-- the function gives the outcome of each call
abbrev pub Tells : Module → (Given → Outcome) → Type 0
Tells m outcomes =
    (input : CallInput) (outcome : CallOutcome) → IsOutcome m input outcome → shown outcome ≡ outcomes (given_of input)
