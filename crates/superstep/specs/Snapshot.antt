-- A snapshot between two supersteps, with one list of all vertices.
use Rattle.std.specs.Prelude.{ℕ, ℤ, Bool, not, ◌||◌, nat_lt, List, map, length}
use Rattle.std.specs.List.{list_any}

-- a vertex (Pregel 2010, 2)
pub record Row : Type 0 where
  pub id : ℕ
  pub value : ℤ
  -- the edges from it, each the target and the edge's value
  pub edges : List (ℕ × ℤ)
  -- whether it has not voted to halt
  pub active : Bool
  -- the messages sent to it in the superstep before
  pub inbox : List ℤ

-- All vertices, by rising id, and the totals of a job.
pub record Snapshot : Type 0 where
  pub rows : List Row
  -- the value of each aggregator in the superstep before
  pub aggregates : List ℤ
  -- the units of all calls so far
  pub units : ℕ
  -- the number of messages so far that went to no vertex
  pub dropped : ℕ

-- the vertex is called in the next superstep: it is active or has messages
abbrev pub is_called : Row → Bool
is_called row = row.active || nat_lt 0 (length row.inbox)

-- no vertex is called in the next superstep
abbrev pub is_quiet : Snapshot → Bool
is_quiet snapshot = not (list_any is_called snapshot.rows)

abbrev pub row_id : Row → ℕ
row_id row = row.id

abbrev pub row_ids : Snapshot → List ℕ
row_ids snapshot = map row_id snapshot.rows

-- the vertices with their values
abbrev pub values_of : Snapshot → List (ℕ × ℤ)
values_of snapshot = map (λ (row : Row). (row.id, row.value)) snapshot.rows
