-- The calls of the plain run, one more at a time.
use Rattle.std.proofs.Common.{◌≡◌, ◌||◌, ℕ, ℤ, suc, nat_lt, true≢false, ◌+◌, ◌-◌, ◌<◌, ◌≤◌, Bool, true, false, List, [], ◌∷◌, ◌++◌, length, get_or, map, set, take, drop, refl, ap, sym, subst, ◌∙◌, arith, append-nil, All}
use Rattle.std.specs.List.{fold}
use Rattle.std.proofs.lemmas.Bool.{lt-ltb}
use Rattle.std.proofs.lemmas.List.{drop_all, get_or-append_right, get_or-drop, get_or-map, get_or_default, length-map, length-take-le, map-append, map-set, set-get_or, take_all, take_more}
use Rattle.std.proofs.lemmas.List.Concat.{flat_map-append}
use Rattle.std.proofs.lemmas.List.Edits.{map_over_more}
use Rattle.std.proofs.lemmas.List.Elements.{All-get_or}
use Rattle.std.proofs.lemmas.List.Sums.{fold-append, sum_by_push}
use Rattle.semantics.specs.Call.{Outcome}
use Rattle.semantics.specs.Outcomes.{Given}
use Rattle.graph.specs.Entry.{Entry}
use Rattle.verified.specs.Aggregators.{aggregator_starts}
use Rattle.plain_run.specs.declared.machine.Held.{Held}
use Rattle.plain_run.specs.declared.machine.Sent.{Sent}
use Rattle.superstep.specs.declared.task.Shared.{Shared}
use Rattle.job_state.specs.State.{capped}
use Rattle.superstep.specs.Folds.{aggregated, give}
use Rattle.superstep.specs.Snapshot.{Row, is_called}
use Rattle.superstep.specs.Superstep.{contributions_of, idle, units_left}
use Rattle.superstep.specs.inside.Called.{HasProperIds, left_in}
use Rattle.plain_run.specs.inside.OneMachine.{AreLeft, Calls, Leaves, called_row, entries_in, entry_in, messages_of, row_in, rows_in}

-- ---- vertices in their list

-- where one vertex changes and its entry stays, all entries stay
pub entries_stay : (vertices : List Held) (i : ℕ) (d changed : Held) → entry_in changed ≡ entry_in (get_or vertices i d) → i < length vertices
    → entries_in (set vertices i changed) ≡ entries_in vertices
entries_stay vertices i d changed same inside =
    map-set entry_in vertices i changed
    ∙ ap (λ (entry : Entry). set (entries_in vertices) i entry) (same ∙ sym (get_or-map entry_in vertices i d (entry_in d) inside))
    ∙ set-get_or (entries_in vertices) i (entry_in d)

pub proper_in : (vertices before : List Held) (i : ℕ) (d : Held) → entries_in vertices ≡ entries_in before → All HasProperIds (entries_in before) → i < length vertices
    → HasProperIds (entry_in (get_or vertices i d))
proper_in vertices before i d same all inside =
    let here : get_or (entries_in before) i (entry_in d) ≡ entry_in (get_or vertices i d) =
    ap (λ (entries : List Entry). get_or entries i (entry_in d)) (sym same) ∙ get_or-map entry_in vertices i d (entry_in d) inside in
    rw (← here) (All-get_or HasProperIds (entries_in before) i (entry_in d) (omega (arith, inside, ap length same, length-map vertices entry_in)) all)

-- ---- one call

halted_in : (active : Bool) (inbox : List ℤ) → (active || nat_lt 0 (length inbox)) ≡ false → active ≡ false
halted_in true inbox is = is
halted_in false inbox is = refl

empty_in : (active : Bool) (inbox : List ℤ) → (active || nat_lt 0 (length inbox)) ≡ false → inbox ≡ []
empty_in active [] is = refl
empty_in true (message ∷ inbox) is = absurd (true≢false is)
empty_in false (message ∷ inbox) is = absurd (true≢false (sym (lt-ltb 0 (suc (length inbox)) (omega arith)) ∙ is))

standing : Row → Bool → List ℤ → Row
standing row active inbox = record { id = row.id; value = row.value; edges = row.edges; active = active; inbox = inbox }

-- a vertex that is not called stays as it is
pub stays_idle : (row : Row) → is_called row ≡ false → row ≡ called_row row (idle row)
unfolding standing
stays_idle row uncalled =
    ap (λ active. standing row active row.inbox) (halted_in row.active row.inbox uncalled)
    ∙ ap (λ inbox. standing row false inbox) (empty_in row.active row.inbox uncalled)

-- and leaves nothing
pub leaves_nothing : (row : Row) (sent : Sent) → Leaves (idle row) sent sent
leaves_nothing row sent = record {
  messages = sym (append-nil sent.messages.items);
  aggregators = refl;
  units = λ total was. was ∙ ap capped (omega arith);
}

-- ---- the calls so far

-- What the calls of the first vertices made of all.
pub record AreCalled (left_by : Row → Outcome) (rows now : List Row) (i : ℕ) (sent : Sent) : Type 0 where
  pub rows_now : now ≡ map (λ row. called_row row (left_by row)) (take i rows) ++ drop i rows
  pub messages : sent.messages.items ≡ messages_of (map left_by (take i rows))
  pub aggregators : sent.aggregators ≡ aggregated (contributions_of (map left_by (take i rows)))
  pub units : sent.units ≡ capped (units_left (map left_by (take i rows)))

one_row_more : (left_by : Row → Outcome) (rows : List Row) (i : ℕ) (d : Row) → i < length rows
    → map left_by (take (i + 1) rows) ≡ map left_by (take i rows) ++ left_by (get_or rows i d) ∷ []
one_row_more left_by rows i d below =
    ap (map left_by) (take_more rows i d below) ∙ map-append left_by (take i rows) (get_or rows i d ∷ [])

-- the vertex that is called next is as it was
next_row : (left_by : Row → Outcome) (rows now : List Row) (i : ℕ) (d : Row) (sent : Sent) → i < length rows → AreCalled left_by rows now i sent
    → get_or now i d ≡ get_or rows i d
next_row left_by rows now i d sent below are =
    let done = map (λ (row : Row). called_row row (left_by row)) (take i rows) in
    let long : length done ≡ i = length-map (take i rows) (λ (row : Row). called_row row (left_by row)) ∙ length-take-le i rows (omega (arith, below)) in
    ap (λ (all : List Row). get_or all i d) are.rows_now
    ∙ get_or-append_right done (drop i rows) i i d long (omega arith)
    ∙ get_or-drop i rows (i - i) d
    ∙ ap (λ k. get_or rows k d) (omega arith)

pub one_more_called : (left_by : Row → Outcome) (rows now : List Row) (i : ℕ) (d after : Row) (old new : Sent) → i < length rows → i < length now → AreCalled left_by rows now i old
    → Calls left_by (get_or now i d) after old new → AreCalled left_by rows (set now i after) (i + 1) new
one_more_called left_by rows now i d after old new below inside are one =
    let row = get_or rows i d in
    let here : get_or now i d ≡ row = next_row left_by rows now i d old below are in
    let called = λ (r : Row). called_row r (left_by r) in
    let before = map left_by (take i rows) in
    let more = one_row_more left_by rows i d below in
    let leaves : Leaves (left_by row) old new = rw (← here) one.leaves in
    record {
      rows_now =
          ap (λ (r : Row). set now i r) (one.row)
          ∙ map_over_more called rows now i (get_or now i d) below are.rows_now (get_or_default now i d (get_or now i d) inside);
      messages =
          leaves.messages ∙ ap (λ (sends : List (ℤ × ℤ)). sends ++ (left_by row).sends) are.messages
          ∙ sym (ap messages_of more ∙ flat_map-append (λ (o : Outcome). o.sends) before (left_by row ∷ [])
          ∙ ap (λ (sends : List (ℤ × ℤ)). messages_of before ++ sends) (append-nil (left_by row).sends));
      aggregators =
          leaves.aggregators ∙ ap (λ (aggregators : List ℤ). fold give aggregators (left_by row).contributions) are.aggregators
          ∙ sym (ap (λ (os : List Outcome). aggregated (contributions_of os)) more
          ∙ ap aggregated (flat_map-append (λ (o : Outcome). o.contributions) before (left_by row ∷ []))
          ∙ fold-append give aggregator_starts (contributions_of before) ((left_by row).contributions ++ [])
          ∙ ap (λ (given : List (ℕ × ℤ)). fold give (aggregated (contributions_of before)) given) (append-nil (left_by row).contributions));
      units =
          leaves.units (units_left before) are.units
          ∙ sym (ap (λ (os : List Outcome). capped (units_left os)) more ∙ ap capped (sum_by_push (λ (o : Outcome). o.units) before (left_by row)));
    }

-- all of them
pub all_called : (left_by : Row → Outcome) (rows now : List Row) (i : ℕ) (sent : Sent) → length rows ≤ i → AreCalled left_by rows now i sent → AreLeft left_by rows now sent
all_called left_by rows now i sent past are =
    let whole = take_all i rows past in
    record {
      rows =
          are.rows_now
          ∙ (λ j. map (λ (row : Row). called_row row (left_by row)) (whole j) ++ drop_all i rows past j)
          ∙ append-nil (map (λ (row : Row). called_row row (left_by row)) rows);
      messages = are.messages ∙ ap (λ (some : List Row). messages_of (map left_by some)) whole;
      aggregators = are.aggregators ∙ ap (λ (some : List Row). aggregated (contributions_of (map left_by some))) whole;
      units = are.units ∙ ap (λ (some : List Row). capped (units_left (map left_by some))) whole;
    }

-- before the first call
pub none_called_yet : (left_by : Row → Outcome) (rows : List Row) (sent : Sent) → sent.messages.items ≡ [] → sent.aggregators ≡ aggregator_starts → sent.units ≡ 0
    → AreCalled left_by rows rows 0 sent
none_called_yet left_by rows sent messages aggregators units = record { rows_now = refl; messages = messages; aggregators = aggregators; units = units }

-- the next vertex of the list
pub called_next : (left_by : Row → Outcome) (before now : List Held) (i : ℕ) (d changed : Held) (old new : Sent) → length now ≡ length before → i < length now
    → AreCalled left_by (rows_in before) (rows_in now) i old → Calls left_by (row_in (get_or now i d)) (row_in changed) old new
    → AreCalled left_by (rows_in before) (rows_in (set now i changed)) (i + 1) new
called_next left_by before now i d changed old new long inside are one =
    let here : get_or (rows_in now) i (row_in d) ≡ row_in (get_or now i d) = get_or-map row_in now i d (row_in d) inside in
    let below : i < length (rows_in before) = omega (arith, inside, long, length-map before row_in) in
    let own : Calls left_by (get_or (rows_in now) i (row_in d)) (row_in changed) old new = rw here one in
    rw (map-set row_in now i changed) (one_more_called left_by (rows_in before) (rows_in now) i (row_in d) (row_in changed) old new below (omega (arith, inside, length-map now row_in)) are own)

-- ---- what a call of the code says

pub idle_calls : (outcomes : Given → Outcome) (shared : Shared) (row : Row) (sent : Sent) → is_called row ≡ false → Calls (left_in outcomes shared) row row sent sent
idle_calls outcomes shared row sent uncalled =
    let told : idle row ≡ left_in outcomes shared row = rw uncalled refl in
    record {
      row = stays_idle row uncalled ∙ ap (called_row row) told;
      leaves = subst (λ (outcome : Outcome). Leaves outcome sent sent) told (leaves_nothing row sent);
    }

pub called_calls : (outcomes : Given → Outcome) (shared : Shared) (row after : Row) (outcome : Outcome) (old new : Sent) → outcome ≡ left_in outcomes shared row
    → after ≡ called_row row outcome → Leaves outcome old new → Calls (left_in outcomes shared) row after old new
called_calls outcomes shared row after outcome old new told is leaves = record {
  row = is ∙ ap (called_row row) told;
  leaves = subst (λ (o : Outcome). Leaves o old new) told leaves;
}
