-- The state of a vertex during a compute call, and how each host call changes it. A host call that only reads returns a
-- field.
use Rattle.std.specs.Prelude.{◌≡◌, ℕ, ℤ, pos, List, [], ◌∷◌, ◌++◌, map, Bool, true, false, slice_index_or}
use Rattle.std.specs.Int.{cast_signed, w64}
use Rattle.verified.specs.declared.call.CallInput.{CallInput}
use Rattle.verified.specs.declared.call.CallOutcome.{CallOutcome}

-- The state of the vertex so far. Its numbers are signed, as the guest sees them.
pub record Host : Type 0 where
  pub id : ℤ
  pub superstep : ℤ
  pub num_vertices : ℤ
  pub value : ℤ
  -- the messages and the edges not taken yet, each edge with its target and its value
  pub messages : List ℤ
  pub edges : List (ℤ × ℤ)
  -- the message and the edge that were taken last
  pub message : ℤ
  pub edge : ℤ × ℤ
  -- the aggregators' values of the superstep before
  pub aggregated : List ℤ
  -- the messages sent and the contributions to aggregators, the latest last
  pub sends : List (ℤ × ℤ)
  pub contributions : List (ℕ × ℤ)
  pub halted : Bool

-- an edge as the guest sees it
abbrev pub seen_edge : ℕ × ℤ → ℤ × ℤ
seen_edge e = (cast_signed w64 e.0, e.1)

-- the state before the call
abbrev pub host_of : CallInput → Host
host_of input = record {
  id = cast_signed w64 input.id;
  superstep = pos input.superstep;
  num_vertices = pos input.count;
  value = input.value;
  messages = input.messages.now;
  edges = map seen_edge input.edges.now;
  message = pos 0;
  edge = (pos 0, pos 0);
  aggregated = input.aggregated;
  sends = [];
  contributions = [];
  halted = false;
}

-- set_value
abbrev pub with_value : Host → ℤ → Host
with_value host value = record host { value = value }

-- next_message, where these messages remain: whether one was taken
abbrev pub take_message : List ℤ → Host → Bool × Host
take_message [] host = (false, host)
take_message (m ∷ ms) host = (true, record host { messages = ms; message = m })

-- next_edge, where these edges remain: whether one was taken
abbrev pub take_edge : List (ℤ × ℤ) → Host → Bool × Host
take_edge [] host = (false, host)
take_edge (e ∷ es) host = (true, record host { edges = es; edge = e })

-- send
abbrev pub with_send : Host → ℤ → ℤ → Host
with_send host target value = record host { sends = host.sends ++ (target, value) ∷ [] }

-- aggregate
abbrev pub with_contribution : Host → ℕ → ℤ → Host
with_contribution host slot value = record host { contributions = host.contributions ++ (slot, value) ∷ [] }

-- aggregated
abbrev pub aggregator_value : Host → ℕ → ℤ
aggregator_value host slot = slice_index_or host.aggregated slot (pos 0)

-- vote_to_halt
abbrev pub with_halt : Host → Host
with_halt host = record host { halted = true }

-- The outcome has the state after the call, and the call's units.
pub record Leaves (outcome : CallOutcome) (host : Host) (units : ℕ) : Type 0 where
  pub value : outcome.value ≡ host.value
  pub sends : outcome.sends.items ≡ host.sends
  pub contributions : outcome.contributions.items ≡ host.contributions
  pub halted : outcome.halted ≡ host.halted
  pub units_taken : outcome.units ≡ units
