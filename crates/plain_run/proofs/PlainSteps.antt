-- The plain run, superstep after superstep.
use Rattle.std.proofs.Common.{◌≡◌, All, ℕ, pos, get_or, set, suc, ◌+◌, ◌-◌, ◌<◌, ◌≤◌, true, false, List, [], ◌∷◌, ◌++◌, length, map, refl, ap, sym, ◌∙◌, subst, arith, inl, inr, rules}
use Rattle.std.specs.Prelude.{◌||◌}
use Rattle.std.specs.List.{list_any, range_with_len, sum_by}
use Rattle.std.specs.List.Sorted.{IsStrictlyIncreasing}
use Rattle.std.proofs.lemmas.Bool.{cases_lt}
use Rattle.std.proofs.lemmas.List.{get_or-map, length-map, map-set}
use Rattle.std.proofs.lemmas.List.FromFn.{map-range_with_len_more}
use Rattle.std.proofs.lemmas.Simd.{map-map}
use Rattle.semantics.specs.Call.{Outcome}
use Rattle.semantics.specs.Outcomes.{AreOutcomes, Given}
use Rattle.graph.specs.declared.parts.Part.{Part}
use Rattle.graph.specs.declared.vertex.Vertex.{Vertex}
use Rattle.graph.specs.Entry.{Entry, IsProper, ids}
use Rattle.plain_run.specs.declared.machine.Held.{Held}
use Rattle.plain_run.specs.declared.machine.OneMachine.{OneMachine}
use Rattle.plain_run.specs.declared.machine.Sent.{Sent}
use Rattle.superstep.specs.declared.ending.JobEnd.{JobEnd}
use Rattle.superstep.specs.declared.task.Shared.{Shared}
use Rattle.superstep.specs.Ending.{Ends, IsEndOf}
use Rattle.job_state.specs.State.{capped}
use Rattle.superstep.specs.Folds.{aggregated}
use Rattle.superstep.specs.Job.{IsGraphOf, Meaning, Work}
use Rattle.superstep.specs.PlainRun.{state_at, units_at}
use Rattle.superstep.specs.Snapshot.{Row, Snapshot, is_called, is_quiet, row_id, row_ids, values_of}
use Rattle.superstep.specs.Superstep.{all_left, contributions_of, dropped_by, left_by, row_after, superstep, units_left}
use Rattle.superstep.specs.inside.Called.{HasProperIds, left_in}
use Rattle.plain_run.specs.inside.OneMachine.{AreLeft, GivesAnswer, IsAt, IsBegun, IsNext, called_row, entries_in, is_called_in, is_over, lost_in, messages_of, row_in, rows_in, sent_among, snapshot_of, value_in, with_messages}
use Rattle.plain_run.proofs.Delivering.{Message, all_lost, all_sent, delivered, holding}
use Rattle.superstep.proofs.Graphs.{one_graph}

abbrev pub vertices_in : Part → List Vertex
vertices_in part = part.vertices.items

-- the ids of the vertices are those of their entries
pub ids_in : (vertices : List Held) → map row_id (rows_in vertices) ≡ ids (entries_in vertices)
ids_in [] = refl
ids_in (held ∷ vertices) = ap (λ numbers. held.vertex.now.id ∷ numbers) (ids_in vertices)

pub as_many_rows : (vertices : List Held) → length (entries_in vertices) ≡ length (rows_in vertices)
as_many_rows [] = refl
as_many_rows (held ∷ vertices) = ap suc (as_many_rows vertices)

pub called_rows : (vertices : List Held) → list_any is_called_in vertices ≡ list_any is_called (rows_in vertices)
called_rows [] = refl
called_rows (held ∷ vertices) = ap (λ b. is_called_in held || b) (called_rows vertices)

pub values_shown : (vertices : List Held) → map value_in vertices ≡ map (λ (row : Row). (row.id, row.value)) (rows_in vertices)
values_shown [] = refl
values_shown (held ∷ vertices) = ap (λ values. value_in held ∷ values) (values_shown vertices)

-- a message that goes to the inbox of the vertex in this place
pub delivered_at : (message : Message) (vertices : List Held) (numbers : List ℕ) (i : ℕ) (d changed : Held) → numbers ≡ ids (entries_in vertices)
    → IsStrictlyIncreasing numbers → i < length vertices → message.0 ≡ pos (get_or numbers i 0)
    → row_in changed ≡ holding (row_in (get_or vertices i d)) ((row_in (get_or vertices i d)).inbox ++ message.1 ∷ [])
    → rows_in (set vertices i changed) ≡ map (with_messages (message ∷ [])) (rows_in vertices)
delivered_at message vertices numbers i d changed same up inside to is =
    let here : get_or (rows_in vertices) i (row_in d) ≡ row_in (get_or vertices i d) = get_or-map row_in vertices i d (row_in d) inside in
    map-set row_in vertices i changed
    ∙ ap (λ (row : Row). set (rows_in vertices) i row) (is ∙ ap (λ (row : Row). holding row (row.inbox ++ message.1 ∷ [])) (sym here))
    ∙ delivered message (rows_in vertices) numbers i (row_in d) (ids_in vertices ∙ sym same) up (omega (arith, inside, length-map vertices row_in)) to

pub all_proper : (graph : List Entry) → IsProper graph → All HasProperIds graph
all_proper graph proper = λ k d inside. record { id = proper.ids_in_range k d inside; targets = proper.targets_in_range k d inside }

-- ---- one superstep

closed_rows : (by : Row → Outcome) (rows : List Row) (messages : List Message) → messages ≡ messages_of (map by rows)
    → map (with_messages messages) (map (λ row. called_row row (by row)) rows) ≡ map (λ row. row_after (map by rows) row (by row)) rows
closed_rows by rows messages is =
    map-map (with_messages messages) (λ (row : Row). called_row row (by row)) rows
    ∙ (λ i. map (λ (row : Row). holding (called_row row (by row)) ((ap (λ (sends : List Message). sent_among sends row.id) is ∙ all_sent (map by rows) row.id) i)) rows)

capped_inside : (before took : ℕ) → capped (before + capped took) ≡ capped (before + took)
capped_inside before took = omega arith

-- What the code makes of the vertices.
pub record IsClosed (shared : Shared) (numbers : List ℕ) (old new : OneMachine) (between : List Held) (sent : Sent) (lost : ℕ) : Type 0 where
  pub superstep : shared.superstep ≡ old.superstep
  pub count : shared.count ≡ length (rows_in old.vertices.items)
  pub aggregated : shared.aggregated ≡ old.aggregates
  pub own_ids : numbers ≡ ids (entries_in old.vertices.items)
  pub rows : rows_in new.vertices.items ≡ map (with_messages sent.messages.items) (rows_in between)
  pub lost_all : lost ≡ lost_in numbers sent.messages.items
  pub aggregates : new.aggregates ≡ sent.aggregators
  pub by_superstep : new.by_superstep.items ≡ old.by_superstep.items ++ sent.units ∷ []
  pub units : new.units ≡ capped (old.units + sent.units)
  pub dropped : new.dropped ≡ capped (old.dropped + lost)

same_left : (outcomes : Given → Outcome) (shared : Shared) (numbers : List ℕ) (old new : OneMachine) (between : List Held) (sent : Sent) (lost : ℕ)
    → IsClosed shared numbers old new between sent lost → left_in outcomes shared ≡ left_by outcomes old.superstep (snapshot_of old)
same_left outcomes shared numbers old new between sent lost is = λ i row. same row i
  where
    same : (row : Row) → left_in outcomes shared row ≡ left_by outcomes old.superstep (snapshot_of old) row
    same row = rw (is.superstep, is.count, is.aggregated) refl

pub closed : (outcomes : Given → Outcome) (shared : Shared) (numbers : List ℕ) (old new : OneMachine) (between : List Held) (sent : Sent) (lost : ℕ)
    → IsClosed shared numbers old new between sent lost → AreLeft (left_in outcomes shared) (rows_in old.vertices.items) (rows_in between) sent → IsNext outcomes old new
closed outcomes shared numbers old new between sent lost is calls =
    let rows = rows_in old.vertices.items in
    let before = snapshot_of old in
    let left = all_left outcomes old.superstep before in
    let by = same_left outcomes shared numbers old new between sent lost is in
    let all : map (left_in outcomes shared) rows ≡ left = ap (λ (f : Row → Outcome). map f rows) by in
    let took : sent.units ≡ capped (units_left left) = calls.units ∙ ap (λ (os : List Outcome). capped (units_left os)) all in
    let own_ids : numbers ≡ row_ids before = is.own_ids ∙ sym (ids_in old.vertices.items) in
    let rows_now : rows_in new.vertices.items ≡ map (λ row. row_after left row (left_by outcomes old.superstep before row)) rows =
    is.rows
    ∙ ap (map (with_messages sent.messages.items)) calls.rows
    ∙ closed_rows (left_in outcomes shared) rows sent.messages.items calls.messages
    ∙ ap (λ (f : Row → Outcome). map (λ (row : Row). row_after (map f rows) row (f row)) rows) by in
    let aggregates_now = is.aggregates ∙ calls.aggregators ∙ ap (λ (os : List Outcome). aggregated (contributions_of os)) all in
    let units_now = is.units ∙ ap (λ n. capped (old.units + n)) took ∙ capped_inside old.units (units_left left) in
    let lost_now : lost ≡ sum_by (dropped_by (row_ids before)) left =
    is.lost_all
    ∙ (λ i. lost_in (own_ids i) ((calls.messages ∙ ap messages_of all) i))
    ∙ all_lost (row_ids before) left in
    let dropped_now = is.dropped ∙ ap (λ n. capped (old.dropped + n)) lost_now in
    record {
      shows = (λ i. let snapshot : Snapshot = record { rows = rows_now i; aggregates = aggregates_now i; units = units_now i; dropped = dropped_now i } in snapshot);
      by_superstep = is.by_superstep ∙ ap (λ n. old.by_superstep.items ++ n ∷ []) took;
    }

-- ---- the run

pub begun : (outcomes : Given → Outcome) (graph : List Entry) (plain : OneMachine) → IsBegun graph plain → IsAt outcomes graph plain
unfolding state_at
begun outcomes graph plain is = record {
  shows = is.shows ∙ sym (ap (state_at outcomes graph) is.superstep);
  by_superstep = is.by_superstep ∙ sym (ap (λ n. map (units_at outcomes graph) (range_with_len 0 n)) is.superstep);
  busy = λ t before. absurd (omega (arith, is.superstep, before));
}

pub next_at : (outcomes : Given → Outcome) (graph : List Entry) (old new : OneMachine) → IsAt outcomes graph old → IsNext outcomes old new
    → new.superstep ≡ old.superstep + 1 → is_quiet (snapshot_of old) ≡ false → IsAt outcomes graph new
unfolding state_at
next_at outcomes graph old new at next later due =
    let s = old.superstep in
    let up : new.superstep ≡ suc s = omega (arith, later) in
    record {
      shows = next.shows ∙ ap (superstep outcomes s) at.shows ∙ sym (ap (state_at outcomes graph) up);
      by_superstep =
          next.by_superstep
          ∙ (λ i. at.by_superstep i ++ capped (units_left (all_left outcomes s (at.shows i))) ∷ [])
          ∙ sym (ap (λ n. map (units_at outcomes graph) (range_with_len 0 n)) later ∙ map-range_with_len_more (units_at outcomes graph) 0 s s (omega arith));
      busy = λ t before. elim (cases_lt t s) [
        | inl below ↦ at.busy t below
        | inr past ↦
            let same : t ≡ s = omega (arith, past, before, later) in
            ap (λ n. is_quiet (state_at outcomes graph n)) same ∙ ap is_quiet (sym at.shows) ∙ due
      ];
    }

-- a run that is not over has something to call, and comes before the limit
pub not_over : (limit : ℕ) (plain : OneMachine) → is_over limit plain ≡ false → (is_quiet (snapshot_of plain) ≡ false) × (plain.superstep < limit)
not_over limit plain is = search rules

-- one that is over has nothing to call, or has come to the limit
pub over : (limit : ℕ) (plain : OneMachine) → is_over limit plain ≡ true → plain.superstep ≤ limit → is_quiet (snapshot_of plain) ≡ false → plain.superstep ≡ limit
over limit plain is within due = search rules

from_zero : (n : ℕ) → n ≡ n - 0
from_zero n = omega arith

ends_over : (work : Work) (meaning : Meaning work) (plain : OneMachine) (ended : JobEnd) → IsAt meaning.outcomes meaning.graph plain → plain.superstep ≤ work.settings.limit
    → is_over work.settings.limit plain ≡ true → GivesAnswer plain ended → Ends work meaning ended
ends_over work meaning plain ended at within stops is =
    let here : state_at meaning.outcomes meaning.graph ended.superstep ≡ snapshot_of plain = ap (state_at meaning.outcomes meaning.graph) is.superstep ∙ sym at.shows in
    record {
      answer = record {
        ends = record {
          within = rw is.superstep within;
          quiet = ap is_quiet here ∙ sym is.how;
          busy = rw is.superstep at.busy;
          last = λ unfinished. is.superstep ∙ over work.settings.limit plain stops within (sym is.how ∙ unfinished);
        };
        values = is.values ∙ sym (ap values_of here);
        units = is.units ∙ sym (ap (λ (snapshot : Snapshot). snapshot.units) here);
        dropped = is.dropped ∙ sym (ap (λ (snapshot : Snapshot). snapshot.dropped) here);
      };
      by_superstep =
          rw (is.since, is.superstep) (is.by_superstep ∙ at.by_superstep ∙ ap (λ n. map (units_at meaning.outcomes meaning.graph) (range_with_len 0 n)) (from_zero plain.superstep));
    }

-- where the run stops, it has what the job ends with
pub run_ended : (work : Work) (graph : List Entry) (plain : OneMachine) (ended : JobEnd) → 0 < work.settings.parts → IsGraphOf work graph
    → ((outcomes : Given → Outcome) → AreOutcomes work.«module» outcomes → IsAt outcomes graph plain) → plain.superstep ≤ work.settings.limit
    → is_over work.settings.limit plain ≡ true → GivesAnswer plain ended → IsEndOf work ended
run_ended work graph plain ended some own at within stops is = λ meaning.
    ends_over work meaning plain ended
    (subst (λ (other : List Entry). IsAt meaning.outcomes other plain) (one_graph work graph meaning.graph some own meaning.is_graph) (at meaning.outcomes meaning.are))
    within stops is
