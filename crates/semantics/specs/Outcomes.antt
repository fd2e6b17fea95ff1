-- The outcomes of a module's calls, as a function of pure data.
use Rattle.std.specs.Prelude.{◌≡◌, ℕ, ℤ, pos, List, [], map, false}
use Rattle.std.specs.Int.{cast_signed, w64}
use Rattle.wasm_ast.specs.declared.module.Module.{Module}
use Rattle.verified.specs.declared.call.CallInput.{CallInput}
use Rattle.verified.specs.Host.{Host, seen_edge}
use Rattle.semantics.specs.Call.{ComesTo, Outcome}

-- The input of a call, as pure data.
pub record Given : Type 0 where
  pub id : ℕ
  pub superstep : ℕ
  -- the number of vertices
  pub count : ℕ
  pub value : ℤ
  pub messages : List ℤ
  -- each edge with the id of its target and its value
  pub edges : List (ℕ × ℤ)
  pub aggregated : List ℤ

-- the model of an input
abbrev pub given_of : CallInput → Given
given_of input = record {
  id = input.id;
  superstep = input.superstep;
  count = input.count;
  value = input.value;
  messages = input.messages.now;
  edges = input.edges.now;
  aggregated = input.aggregated;
}

-- the vertex before the call; for the model of an input it is its `host_of`
abbrev pub vertex_of : Given → Host
vertex_of given = record {
  id = cast_signed w64 given.id;
  superstep = pos given.superstep;
  num_vertices = pos given.count;
  value = given.value;
  messages = given.messages;
  edges = map seen_edge given.edges;
  message = pos 0;
  edge = (pos 0, pos 0);
  aggregated = given.aggregated;
  sends = [];
  contributions = [];
  halted = false;
}

-- The function has the outcome of each call of the module. Machines are run by steps, and no number of steps is
-- enough for all modules. But each call of a module in the bounded profile ends, whatever its input. So each of these
-- modules has exactly one such function, and it is total.
abbrev pub AreOutcomes : Module → (Given → Outcome) → Type 0
AreOutcomes m outcomes = (given : Given) → ComesTo m (vertex_of given) (outcomes given)

-- there is exactly one such function
pub record HasOneOutcome (m : Module) : Type 0 where
  pub outcomes : Given → Outcome
  pub are : AreOutcomes m outcomes
  pub only : (others : Given → Outcome) → AreOutcomes m others → (given : Given) → others given ≡ outcomes given
