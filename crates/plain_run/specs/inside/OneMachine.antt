-- The plain run, as the code has it: its vertices, and the output of its calls.
use Rattle.std.specs.Prelude.{◌≡◌, ◌+◌, ◌++◌, ◌∷◌, ◌||◌, ◌<◌, ℕ, ℤ, Bool, nat_le, not, false, List, [], map, filter, count_by}
use Rattle.std.specs.Borrow.{Bor}
use Rattle.std.specs.List.{flat_map, fold, list_any, range_with_len}
use Rattle.semantics.specs.Call.{Outcome}
use Rattle.semantics.specs.Outcomes.{AreOutcomes, Given}
use Rattle.graph.specs.declared.vertex.Vertex.{Vertex}
use Rattle.graph.specs.Entry.{Entry, entry_of}
use Rattle.plain_run.specs.declared.machine.Held.{Held}
use Rattle.plain_run.specs.declared.machine.OneMachine.{OneMachine}
use Rattle.plain_run.specs.declared.machine.Sent.{Sent}
use Rattle.superstep.specs.declared.ending.JobEnd.{JobEnd}
use Rattle.job_state.specs.State.{capped}
use Rattle.superstep.specs.Folds.{aggregated, give}
use Rattle.superstep.specs.Snapshot.{Row, Snapshot, is_called, is_quiet, values_of}
use Rattle.superstep.specs.Superstep.{all_left, contributions_of, is_sent_to, superstep, units_left}
use Rattle.superstep.specs.PlainRun.{first, first_row, state_at, units_at}
use Rattle.superstep.specs.Job.{Work}
use Rattle.superstep.specs.Ending.{is_finished}

abbrev pub entry_now : Bor Vertex → Entry
entry_now vertex = entry_of vertex.now

abbrev pub id_now : Bor Vertex → ℕ
id_now vertex = vertex.now.id

abbrev pub entry_in : Held → Entry
entry_in held = entry_of held.vertex.now

abbrev pub entries_in : List Held → List Entry
entries_in vertices = map entry_in vertices

abbrev pub row_in : Held → Row
row_in held = record {
  id = held.vertex.now.id;
  value = held.value;
  edges = held.vertex.now.edges.items;
  active = held.active;
  inbox = held.inbox.items;
}

abbrev pub rows_in : List Held → List Row
rows_in vertices = map row_in vertices

-- the vertex is called in the next superstep
abbrev pub is_called_in : Held → Bool
is_called_in held = is_called (row_in held)

abbrev pub value_in : Held → ℕ × ℤ
value_in held = (held.vertex.now.id, held.value)

-- the snapshot between two supersteps
abbrev pub snapshot_of : OneMachine → Snapshot
snapshot_of plain = record { rows = rows_in plain.vertices.items; aggregates = plain.aggregates; units = plain.units; dropped = plain.dropped }

-- the vertex before superstep 0
pub record IsFirst (vertex : Vertex) (held : Held) : Type 0 where
  pub entry : entry_in held ≡ entry_of vertex
  pub row : row_in held ≡ first_row (entry_of vertex)

-- the machine before superstep 0 of this graph
pub record IsBegun (graph : List Entry) (plain : OneMachine) : Type 0 where
  pub entries : entries_in plain.vertices.items ≡ graph
  pub superstep : plain.superstep ≡ 0
  pub shows : snapshot_of plain ≡ first graph
  pub by_superstep : plain.by_superstep.items ≡ []

-- ---- calls

-- a vertex after its call, with an empty inbox
abbrev pub called_row : Row → Outcome → Row
called_row row outcome = record { id = row.id; value = outcome.value; edges = row.edges; active = not outcome.halted; inbox = [] }

-- The outcome of a call is added to the output of others. If the total of their units was capped, the new total is capped too.
pub record Leaves (outcome : Outcome) (old new : Sent) : Type 0 where
  pub messages : new.messages.items ≡ old.messages.items ++ outcome.sends
  pub aggregators : new.aggregators ≡ fold give old.aggregators outcome.contributions
  pub units : (total : ℕ) → old.units ≡ capped total → new.units ≡ capped (total + outcome.units)

-- the vertex is called, and has this outcome
pub record Calls (left_by : Row → Outcome) (before after : Row) (old new : Sent) : Type 0 where
  pub row : after ≡ called_row before (left_by before)
  pub leaves : Leaves (left_by before) old new

-- the messages of all outcomes, in the order of sending
abbrev pub messages_of : List Outcome → List (ℤ × ℤ)
messages_of outcomes = flat_map (λ (outcome : Outcome). outcome.sends) outcomes

-- this is the output of all vertices
pub record AreLeft (left_by : Row → Outcome) (before after : List Row) (sent : Sent) : Type 0 where
  pub rows : after ≡ map (λ row. called_row row (left_by row)) before
  pub messages : sent.messages.items ≡ messages_of (map left_by before)
  pub aggregators : sent.aggregators ≡ aggregated (contributions_of (map left_by before))
  pub units : sent.units ≡ capped (units_left (map left_by before))

-- ---- delivery

-- the messages to this id
abbrev pub sent_among : List (ℤ × ℤ) → ℕ → List ℤ
sent_among messages id = map (λ send. send.1) (filter (is_sent_to id) messages)

-- a vertex with the messages to it
abbrev pub with_messages : List (ℤ × ℤ) → Row → Row
with_messages messages row = record { id = row.id; value = row.value; edges = row.edges; active = row.active; inbox = row.inbox ++ sent_among messages row.id }

-- the number of messages that go to none of these ids
abbrev pub lost_in : List ℕ → List (ℤ × ℤ) → ℕ
lost_in ids messages = count_by (λ send. not (list_any (λ id. is_sent_to id send) ids)) messages

-- ---- supersteps

-- the next superstep, where the function gives the outcomes of the calls
pub record IsNext (outcomes : Given → Outcome) (old new : OneMachine) : Type 0 where
  pub shows : snapshot_of new ≡ superstep outcomes old.superstep (snapshot_of old)
  pub by_superstep : new.by_superstep.items
      ≡ old.by_superstep.items ++ capped (units_left (all_left outcomes old.superstep (snapshot_of old))) ∷ []

pub record GoesOn (work : Work) (old new : OneMachine) : Type 0 where
  pub entries : entries_in new.vertices.items ≡ entries_in old.vertices.items
  pub superstep : new.superstep ≡ old.superstep + 1
  pub next : (outcomes : Given → Outcome) → AreOutcomes work.«module» outcomes → IsNext outcomes old new

-- this is the job's run before its superstep, and in each superstep before some vertex was called
pub record IsAt (outcomes : Given → Outcome) (graph : List Entry) (plain : OneMachine) : Type 0 where
  pub shows : snapshot_of plain ≡ state_at outcomes graph plain.superstep
  pub by_superstep : plain.by_superstep.items ≡ map (units_at outcomes graph) (range_with_len 0 plain.superstep)
  pub busy : (t : ℕ) → t < plain.superstep → is_quiet (state_at outcomes graph t) ≡ false

-- the job ends here
abbrev pub is_over : ℕ → OneMachine → Bool
is_over limit plain = is_quiet (snapshot_of plain) || nat_le limit plain.superstep

-- The report has the numbers and the values of the machine.
pub record GivesAnswer (plain : OneMachine) (ended : JobEnd) : Type 0 where
  pub how : is_finished ended.how ≡ is_quiet (snapshot_of plain)
  pub superstep : ended.superstep ≡ plain.superstep
  pub values : ended.values.items ≡ values_of (snapshot_of plain)
  pub units : ended.units ≡ plain.units
  pub dropped : ended.dropped ≡ plain.dropped
  pub since : ended.since ≡ 0
  pub by_superstep : ended.by_superstep.items ≡ plain.by_superstep.items
