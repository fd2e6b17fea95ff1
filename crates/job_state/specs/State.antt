-- States of a job between two supersteps.
use Rattle.std.specs.Prelude.{◌≡◌, ◌<◌, ◌≤◌, ◌+◌, ◌-◌, ◌^◌, ℕ, ℤ, List, length, map, min, Bool, not, nat_lt, ◌||◌}
use Rattle.std.specs.List.{list_any, sum}
use Rattle.std.specs.List.Sorted.{IsStrictlyIncreasing}
use Rattle.graph.specs.Partition.{joined}
use Rattle.job_state.specs.declared.state.VertexState.{VertexState}
use Rattle.job_state.specs.Ordering.{by_key}

-- the model of a state
pub record Standing : Type 0 where
  -- the superstep that comes next
  pub superstep : ℕ
  -- the first superstep whose units are reported
  pub since : ℕ
  -- the units of each superstep from that one on
  pub by_superstep : List ℕ
  pub units : ℕ
  pub dropped : ℕ
  pub aggregates : List ℤ
  -- by rising id
  pub vertices : List VertexState

abbrev pub state_id : VertexState → ℕ
state_id vertex = vertex.id

-- the vertices of all parts, by rising id
abbrev pub in_order : List (List VertexState) → List VertexState
in_order parts = by_key state_id (joined parts)

-- totals stop at the greatest number of 128 bits
abbrev pub capped : ℕ → ℕ
capped total = min total (2 ^ 128 - 1)

-- What holds for every state: the ids rise, and there are fewer than 2^32 of them. The units of each superstep from `since` on
-- are reported. The total is at least their sum, and is their sum where all supersteps are reported.
pub record IsState (state : Standing) : Type 0 where
  pub rising : IsStrictlyIncreasing (map state_id state.vertices)
  pub few : length state.vertices < 2 ^ 32
  pub told : state.since + length state.by_superstep ≡ state.superstep
  pub least : capped (sum state.by_superstep) ≤ state.units
  pub all : state.since ≡ 0 → state.units ≡ capped (sum state.by_superstep)

-- the vertex is called in the next superstep
abbrev pub is_due : VertexState → Bool
is_due vertex = vertex.active || nat_lt 0 (length vertex.inbox)

-- no vertex is called in the next superstep
abbrev pub is_settled : Standing → Bool
is_settled state = not (list_any is_due state.vertices)
