-- The calls of a part's due vertices, one after another.
use Rattle.std.proofs.Common.{◌≡◌, ℕ, pos, zero, suc, ◌+◌, ◌-◌, ◌<◌, ◌≤◌, false, not, List, [], ◌∷◌, ◌++◌, length, get_or, map, take, drop, set, refl, ap, sym, subst, ◌∙◌, arith, append-nil}
use Rattle.std.proofs.Math.Bool.{or-false}
use Rattle.std.proofs.lemmas.Bool.Decides.{nat_tests}
use Rattle.std.proofs.lemmas.List.{drop-drop, drop_more, get_or_default, length-drop, length-map, length-set, set-get_or, take-set, take_all}
use Rattle.std.specs.List.{AllByRecursion}
use Rattle.graph.specs.declared.vertex.Vertex.{Vertex}
use Rattle.graph.specs.Entry.{Entry, entries_of, entry_of, ids}
use Rattle.compute.specs.declared.part_output.PartOutput.{PartOutput}
use Rattle.job_state.specs.declared.state.VertexState.{VertexState}
use Rattle.superstep.specs.declared.task.Shared.{Shared}
use Rattle.job_state.specs.State.{is_due, state_id}
use Rattle.superstep.specs.Superstep.{idle}
use Rattle.job_state.specs.inside.DueRows.{due_rows}
use Rattle.compute.specs.inside.DueRuns.{IsRunning, RunsUpto}
use Rattle.compute.specs.inside.PartOutput.{CallsPart, CallsVertex}
use Rattle.superstep.specs.inside.Called.{row_of}
use Rattle.job_state.proofs.DueRows.{Idle, due_rows_more, first_due, none_due, row_if}
use Rattle.compute.proofs.PartCalls.{adds_idle, as_many, at_rest, part_end, part_step, rest_step}
use Rattle.superstep.proofs.VertexCalls.{idle_stays, idle_told}

halted : (vertex : VertexState) → Idle vertex → vertex.active ≡ false
halted vertex is = grind arith

no_messages : (vertex : VertexState) → Idle vertex → length vertex.inbox ≡ 0
no_messages vertex is = grind (arith, nat_tests)

-- a vertex that is not due stays as it is
idle_vertex : (shared : Shared) (entry : Entry) (vertex : VertexState) (left : PartOutput) → Idle vertex → CallsVertex shared entry vertex vertex left left
idle_vertex shared entry vertex left is = record {
  outcome = idle (row_of entry vertex);
  is = λ outcomes tells. idle_told outcomes shared (row_of entry vertex) (halted vertex is) (no_messages vertex is);
  vertex = idle_stays entry vertex (halted vertex is) (no_messages vertex is);
  adds = adds_idle (row_of entry vertex) vertex.id left;
}

-- a vertex after its call is due where it is active
pub called_due : (shared : Shared) (entry : Entry) (before after : VertexState) (old new : PartOutput) → CallsVertex shared entry before after old new → is_due after ≡ after.active
called_due shared entry before after old new one =
    rw one.vertex (or-false (not one.outcome.halted))

abbrev no_entry : Entry
no_entry = record { id = 0; value = pos 0; edges = [] }

module _ (shared : Shared) (entries : List Entry) (before : List VertexState) (same : length entries ≡ length before) where
  -- one vertex more, which is called or not due
  pub one_upto : (now : List VertexState) (i : ℕ) (entry : Entry) (e changed : VertexState) (old new : PartOutput) (active after : List ℕ)
      → length now ≡ length before → i < length before → entry ≡ get_or entries i entry → RunsUpto shared entries before now i old active
      → CallsVertex shared entry (get_or now i e) changed old new → after ≡ active ++ row_if (is_due changed) i
      → RunsUpto shared entries before (set now i changed) (i + 1) new after
  one_upto now i entry e changed old new active after long below is runs one grown = record {
    calls = part_step shared entries before now i entry e changed old new same long (omega arith) runs.rest is runs.calls one;
    rest = rest_step before now i changed runs.rest;
    listed =
        grown ∙ ap (λ rows. rows ++ row_if (is_due changed) i) runs.listed
        ∙ ap (λ (xs : List VertexState). due_rows 0 xs ++ row_if (is_due changed) i) (sym (take-set now i changed))
        ∙ shown
        ∙ sym (due_rows_more (set now i changed) i changed (omega (arith, length-set now i changed)));
  }
    where
      shown : due_rows 0 (take i (set now i changed)) ++ row_if (is_due changed) i
          ≡ due_rows 0 (take i (set now i changed)) ++ row_if (is_due (get_or (set now i changed) i changed)) i
      shown = ap (λ (v : VertexState). due_rows 0 (take i (set now i changed)) ++ row_if (is_due v) i) (there now i (omega arith))
        where
          there : (xs : List VertexState) (k : ℕ) → k < length xs → changed ≡ get_or (set xs k changed) k changed
          there [] k none = absurd (omega arith)
          there (x ∷ xs) zero inside = refl
          there (x ∷ xs) (suc k) inside = there xs k (omega arith)

  idle_upto : (now : List VertexState) (i : ℕ) (left : PartOutput) (active : List ℕ) (e : VertexState) → length now ≡ length before → i < length before
      → Idle (get_or before i e) → RunsUpto shared entries before now i left active → RunsUpto shared entries before now (i + 1) left active
  idle_upto now i left active e long below idle runs =
      let there : get_or now i e ≡ get_or before i e = at_rest now before i e runs.rest in
      let own : Idle (get_or now i e) = ap is_due there ∙ idle in
      let entry = get_or entries i no_entry in
      subst (λ (xs : List VertexState). RunsUpto shared entries before xs (i + 1) left active) (set-get_or now i e)
      (one_upto now i entry e (get_or now i e) left left active active long below (get_or_default entries i no_entry entry (omega arith)) runs
      (idle_vertex shared entry (get_or now i e) left own)
      (sym (append-nil active) ∙ ap (λ due. active ++ row_if due i) (sym own)))

  -- vertices that are not due
  pub all_idle_upto : (count : ℕ) (now : List VertexState) (i : ℕ) (left : PartOutput) (active : List ℕ) (e : VertexState) → length now ≡ length before → i + count ≤ length before
      → AllByRecursion Idle (take count (drop i before)) → RunsUpto shared entries before now i left active
      → RunsUpto shared entries before now (i + count) left active
  all_idle_upto zero now i left active e long inside idle runs =
      let same : i ≡ i + 0 = omega arith in
      subst (λ n. RunsUpto shared entries before now n left active) same runs
  all_idle_upto (suc count) now i left active e long inside idle runs =
      let here : drop i before ≡ get_or before i e ∷ drop (i + 1) before = drop_more before i e (omega arith) in
      let all : AllByRecursion Idle (take (suc count) (get_or before i e ∷ drop (i + 1) before)) =
      subst (λ (xs : List VertexState). AllByRecursion Idle (take (suc count) xs)) here idle in
      let next : (i + 1) + count ≡ i + suc count = omega arith in
      subst (λ n. RunsUpto shared entries before now n left active) next
      (all_idle_upto count now (i + 1) left active e long (omega arith) all.1 (idle_upto now i left active e long (omega arith) all.0 runs))

  -- up to the first of the due rows
  pub record IsNext (now : List VertexState) (row : ℕ) (rows : List ℕ) (left : PartOutput) (active : List ℕ) : Type 0 where
    pub inside : row < length before
    pub runs : RunsUpto shared entries before now row left active
    pub later : rows ≡ due_rows (row + 1) (drop (row + 1) before)

  pub next_due : (now : List VertexState) (row : ℕ) (rows due : List ℕ) (left : PartOutput) (active : List ℕ) → length now ≡ length before
      → due ≡ row ∷ rows → IsRunning shared entries before now due left active → IsNext now row rows left active
  next_due now row rows due left active long is running =
      let first = first_due running.row (drop running.row before) row rows (sym running.waiting ∙ is) in
      let inside : running.row + first.count < length before = omega (arith, first.inside, length-drop running.row before) in
      let upto = all_idle_upto first.count now running.row left active (default before (omega arith)) long (omega arith) first.idle running.runs in
      let dropped : drop (suc first.count) (drop running.row before) ≡ drop (row + 1) before =
      drop-drop (suc first.count) running.row before ∙ ap (λ n. drop n before) (omega (arith, first.is)) in
      record {
        inside = omega (arith, first.is);
        runs = subst (λ n. RunsUpto shared entries before now n left active) (sym first.is) upto;
        later = first.later ∙ ap (λ (xs : List VertexState). due_rows (row + 1) xs) dropped;
      }
    where
      default : (xs : List VertexState) → 0 < length xs → VertexState
      default [] none = absurd (omega arith)
      default (x ∷ xs) some = x

  -- up to the end, where no due row is left
  pub all_run : (now : List VertexState) (due : List ℕ) (left : PartOutput) (active : List ℕ) → length now ≡ length before → due ≡ []
      → IsRunning shared entries before now due left active
      → (CallsPart shared entries before now left) × (active ≡ due_rows 0 now)
  all_run now due left active long none running = end (drop running.row before) refl
    where
      finish : (n : ℕ) → length before ≤ n → RunsUpto shared entries before now n left active → (CallsPart shared entries before now left) × (active ≡ due_rows 0 now)
      finish n over runs =
          (part_end shared entries before now n left same long (omega arith) runs.calls, runs.listed ∙ ap (due_rows 0) (take_all n now (omega arith)))

      end : (rest : List VertexState) → rest ≡ drop running.row before → (CallsPart shared entries before now left) × (active ≡ due_rows 0 now)
      end [] is = finish running.row (omega (arith, ap length is, length-drop running.row before)) running.runs
      end (vertex ∷ rest) is =
          let count = length (vertex ∷ rest) in
          let long_rest : count ≡ length before - running.row = ap length is ∙ length-drop running.row before in
          let idle = none_due running.row (drop running.row before) (sym running.waiting ∙ none) in
          let whole : take count (drop running.row before) ≡ drop running.row before = take_all count (drop running.row before) (omega (arith, ap length is)) in
          finish (running.row + count) (omega arith)
          (all_idle_upto count now running.row left active vertex long (omega arith)
          (subst (λ (xs : List VertexState). AllByRecursion Idle xs) (sym whole) idle) running.runs)

-- before the first call
pub not_begun : (shared : Shared) (entries : List Entry) (before : List VertexState) (due : List ℕ) (left : PartOutput) (active : List ℕ) → due ≡ due_rows 0 before
    → CallsPart shared [] [] [] left → active ≡ [] → IsRunning shared entries before before due left active
not_begun shared entries before due left active is none nothing = record {
  row = 0;
  runs = record { calls = none; rest = refl; listed = nothing };
  waiting = is;
}

-- the entries are as many as the vertices
pub as_long : (entries : List Vertex) (before : List VertexState) → ids (entries_of entries) ≡ map state_id before → length (entries_of entries) ≡ length before
as_long entries before same = length-map entries entry_of ∙ as_many entries before same

-- the due row at this place
pub next_row : (shared : Shared) (entries : List Vertex) (before now : List VertexState) (due : List ℕ) (i : ℕ) (left : PartOutput) (active : List ℕ)
    → (same : ids (entries_of entries) ≡ map state_id before) → length now ≡ length before → i < length due
    → IsRunning shared (entries_of entries) before now (drop i due) left active
    → IsNext shared (entries_of entries) before (as_long entries before same) now (get_or due i 0) (drop (i + 1) due) left active
next_row shared entries before now due i left active same long inside running =
    next_due shared (entries_of entries) before (as_long entries before same) now (get_or due i 0) (drop (i + 1) due) (drop i due) left active long (drop_more due i 0 inside) running
