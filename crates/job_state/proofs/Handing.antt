-- Inboxes that are not empty, handed to the vertices in their rows: then each vertex has its inbox, and the due rows are known.
use Rattle.std.proofs.Common.{◌≡◌, ℕ, ℤ, zero, suc, ◌+◌, ◌<◌, ◌≤◌, Bool, true, false, cond, List, [], ◌∷◌, ◌++◌, length, get_or, set, refl, ap, sym, subst, ◌∙◌, arith, append_assoc, length-append}
use Rattle.std.proofs.Math.Bool.{or-true}
use Rattle.std.proofs.lemmas.Bool.{lt-ltb}
use Rattle.std.proofs.lemmas.List.{map-id}
use Rattle.std.proofs.lemmas.List.Sorted.{IsNonDecreasingBy-from_sort, IsPermutation-cons, IsPermutation-sym, IsPermutation-to_front, IsPermutation-trans}
use Rattle.std.specs.List.{AllByRecursion, fold}
use Rattle.std.specs.List.Sorted.{IsNonDecreasing, IsPermutation, IsSorted}
use Rattle.std.specs.Ordering.{nat_cmp}
use Rattle.graph.specs.inside.Rising.{sorted_same}
use Rattle.inbox.specs.declared.arrivals.Arrival.{Arrival}
use Rattle.inbox.specs.Arrivals.{arrivals_from}
use Rattle.job_state.specs.declared.state.VertexState.{VertexState}
use Rattle.job_state.specs.State.{is_due}
use Rattle.job_state.specs.inside.Filled.{filled, with_inbox}
use Rattle.job_state.specs.inside.DueRows.{due_rows}
use Rattle.job_state.specs.inside.Handed.{HasNoInbox, handed, put_inbox, put_some}
use Rattle.job_state.proofs.DueRows.{due_rows_rise}

-- ---- the vertices

put_at : (before : List VertexState) (vertex : VertexState) (later : List VertexState) (row : ℕ) (inbox : List ℤ) → row ≡ length before
    → put_inbox row inbox (before ++ vertex ∷ later) ≡ before ++ with_inbox (vertex, inbox) ∷ later
put_at [] vertex later row inbox is = ap (λ n. put_inbox n inbox (vertex ∷ later)) is
put_at (first ∷ before) vertex later zero inbox is = absurd (omega arith)
put_at (first ∷ before) vertex later (suc row) inbox is = ap (λ rest. first ∷ rest) (put_at before vertex later row inbox (omega arith))

stays : (vertex : VertexState) → vertex.inbox ≡ [] → with_inbox (vertex, []) ≡ vertex
stays vertex none = λ i. record { id = vertex.id; value = vertex.value; active = vertex.active; inbox = sym none i }

pushed : {X : Type 0} (xs : List X) (x : X) (ys : List X) → (xs ++ x ∷ []) ++ ys ≡ xs ++ x ∷ ys
pushed xs x ys = append_assoc xs (x ∷ []) ys

one_longer : {X : Type 0} (xs : List X) (x : X) (n : ℕ) → n ≡ length xs → n + 1 ≡ length (xs ++ x ∷ [])
one_longer xs x n is = omega (arith, is, length-append xs (x ∷ []))

handed_from : (before vertices : List VertexState) (inboxes : List (List ℤ)) (row : ℕ) → row ≡ length before → length vertices ≡ length inboxes
    → AllByRecursion HasNoInbox vertices
    → fold handed (before ++ vertices) (arrivals_from row inboxes) ≡ before ++ filled (vertices, inboxes)
handed_from before [] [] row is long none = refl
handed_from before [] (inbox ∷ inboxes) row is long none = absurd (omega arith)
handed_from before (vertex ∷ vertices) [] row is long none = absurd (omega arith)
handed_from before (vertex ∷ vertices) ([] ∷ inboxes) row is long none =
    ap (λ all. fold handed all (arrivals_from (row + 1) inboxes)) (sym (pushed before vertex vertices))
    ∙ handed_from (before ++ vertex ∷ []) vertices inboxes (row + 1) (one_longer before vertex row is) (omega arith) none.1
    ∙ pushed before vertex (filled (vertices, inboxes))
    ∙ ap (λ own. before ++ own ∷ filled (vertices, inboxes)) (sym (stays vertex none.0))
handed_from before (vertex ∷ vertices) ((message ∷ messages) ∷ inboxes) row is long none =
    let inbox = message ∷ messages in
    let own = with_inbox (vertex, inbox) in
    ap (λ all. fold handed all (arrivals_from (row + 1) inboxes)) (put_at before vertex vertices row inbox is ∙ sym (pushed before own vertices))
    ∙ handed_from (before ++ own ∷ []) vertices inboxes (row + 1) (one_longer before own row is) (omega arith) none.1
    ∙ pushed before own (filled (vertices, inboxes))

pub all_handed : (vertices : List VertexState) (arrivals : List Arrival) (inboxes : List (List ℤ)) → arrivals ≡ arrivals_from 0 inboxes → length vertices ≡ length inboxes
    → AllByRecursion HasNoInbox vertices → fold handed vertices arrivals ≡ filled (vertices, inboxes)
all_handed vertices arrivals inboxes are long none =
    ap (fold handed vertices) are ∙ handed_from [] vertices inboxes 0 refl long none

-- ---- the due rows

-- a vertex with messages is due
with_messages : (vertex : VertexState) (inbox : List ℤ) → 0 < length inbox → is_due (with_inbox (vertex, inbox)) ≡ true
with_messages vertex inbox some = rw (lt-ltb 0 (length inbox) some) (or-true vertex.active)

pub still_due : (from : ℕ) (vertices : List VertexState) (row : ℕ) (inbox : List ℤ) (d : VertexState) → 0 < length inbox → row < length vertices
    → is_due (get_or vertices row d) ≡ true → due_rows from (put_inbox row inbox vertices) ≡ due_rows from vertices
still_due from [] row inbox d some below due = absurd (omega arith)
still_due from (vertex ∷ vertices) zero inbox d some below due = rw (with_messages vertex inbox some, due) refl
still_due from (vertex ∷ vertices) (suc row) inbox d some below due =
    ap (λ rows. cond (is_due vertex) (from ∷ rows) rows) (still_due (from + 1) vertices row inbox d some (omega arith) due)

now_due : (from : ℕ) (vertices : List VertexState) (row : ℕ) (inbox : List ℤ) (d : VertexState) → 0 < length inbox → row < length vertices
    → is_due (get_or vertices row d) ≡ false → IsPermutation ((from + row) ∷ due_rows from vertices) (due_rows from (put_inbox row inbox vertices))
now_due from [] row inbox d some below due = absurd (omega arith)
now_due from (vertex ∷ vertices) zero inbox d some below due =
    let here : from + 0 ≡ from = omega arith in
    let all : (from + 0) ∷ due_rows from (vertex ∷ vertices) ≡ due_rows from (with_inbox (vertex, inbox) ∷ vertices) =
    rw (with_messages vertex inbox some, due, here) refl in
    subst (λ rows. IsPermutation ((from + 0) ∷ due_rows from (vertex ∷ vertices)) rows) all
    (same ((from + 0) ∷ due_rows from (vertex ∷ vertices)))
  where
    same : (rows : List ℕ) → IsPermutation rows rows
    same rows = record { moves = []; below = tt; is = refl }
now_due from (vertex ∷ vertices) (suc row) inbox d some below due =
    let at : (from + 1) + row ≡ from + suc row = omega arith in
    choose (is_due vertex)
    (subst (λ n. IsPermutation (n ∷ due_rows (from + 1) vertices) (due_rows (from + 1) (put_inbox row inbox vertices))) at
    (now_due (from + 1) vertices row inbox d some (omega arith) due))
  where
    -- the first two change places
    turned : (a b : ℕ) (rows : List ℕ) → IsPermutation (a ∷ b ∷ rows) (b ∷ a ∷ rows)
    turned a b rows = record { moves = (0, 1) ∷ []; below = (omega arith, omega arith, tt); is = refl }

    choose : (first : Bool) → IsPermutation ((from + suc row) ∷ due_rows (from + 1) vertices) (due_rows (from + 1) (put_inbox row inbox vertices))
        → IsPermutation ((from + suc row) ∷ cond first (from ∷ due_rows (from + 1) vertices) (due_rows (from + 1) vertices))
        (cond first (from ∷ due_rows (from + 1) (put_inbox row inbox vertices)) (due_rows (from + 1) (put_inbox row inbox vertices)))
    choose true next =
        IsPermutation-trans _ _ _ (turned (from + suc row) from (due_rows (from + 1) vertices))
        (IsPermutation-cons from ((from + suc row) ∷ due_rows (from + 1) vertices) (due_rows (from + 1) (put_inbox row inbox vertices)) next)
    choose false next = next

-- one more due row
pub now_listed : (vertices : List VertexState) (row : ℕ) (inbox : List ℤ) (d : VertexState) (due : List ℕ) → 0 < length inbox → row < length vertices
    → is_due (get_or vertices row d) ≡ false → IsPermutation due (due_rows 0 vertices) → IsPermutation (due ++ row ∷ []) (due_rows 0 (put_inbox row inbox vertices))
now_listed vertices row inbox d due some below idle listed =
    let here : 0 + row ≡ row = omega arith in
    let added = subst (λ n. IsPermutation (n ∷ due_rows 0 vertices) (due_rows 0 (put_inbox row inbox vertices))) here (now_due 0 vertices row inbox d some below idle) in
    IsPermutation-trans _ _ _ (IsPermutation-to_front due row) (IsPermutation-trans _ _ _ (IsPermutation-cons row due (due_rows 0 vertices) listed) added)

pub put_some_is : (row : ℕ) (inbox : List ℤ) (vertices : List VertexState) → 0 < length inbox → put_some row inbox vertices ≡ put_inbox row inbox vertices
put_some_is row [] vertices some = absurd (omega arith)
put_some_is row (message ∷ messages) vertices some = refl

pub put_none_is : (row : ℕ) (inbox : List ℤ) (vertices : List VertexState) → length inbox ≡ 0 → put_some row inbox vertices ≡ vertices
put_none_is row [] vertices none = refl
put_none_is row (message ∷ messages) vertices none = absurd (omega arith)

past : (row : ℕ) (inbox : List ℤ) (vertices : List VertexState) → length vertices ≤ row → put_inbox row inbox vertices ≡ vertices
past row inbox [] over = refl
past zero inbox (vertex ∷ vertices) over = absurd (omega arith)
past (suc row) inbox (vertex ∷ vertices) over = ap (λ rest. vertex ∷ rest) (past row inbox vertices (omega arith))

pub put_past_is : (row : ℕ) (inbox : List ℤ) (vertices : List VertexState) → length vertices ≤ row → put_some row inbox vertices ≡ vertices
put_past_is row [] vertices over = refl
put_past_is row (message ∷ messages) vertices over = past row (message ∷ messages) vertices over

-- a write to the row
pub put_is_set : (row : ℕ) (inbox : List ℤ) (vertices : List VertexState) (d changed : VertexState) → row < length vertices → changed ≡ with_inbox (get_or vertices row d, inbox)
    → set vertices row changed ≡ put_inbox row inbox vertices
put_is_set row inbox [] d changed below is = absurd (omega arith)
put_is_set zero inbox (vertex ∷ vertices) d changed below is = ap (λ own. own ∷ vertices) is
put_is_set (suc row) inbox (vertex ∷ vertices) d changed below is = ap (λ rest. vertex ∷ rest) (put_is_set row inbox vertices d changed (omega arith) is)

-- sorted, they are the due rows
pub sorted_due : (due : List ℕ) (rows : List ℕ) (vertices : List VertexState) → IsPermutation due (due_rows 0 vertices) → IsPermutation due rows → IsSorted nat_cmp rows
    → rows ≡ due_rows 0 vertices
sorted_due due rows vertices listed moved up =
    let falls_not : IsNonDecreasing rows = IsNonDecreasingBy-from_sort (λ n. n) rows up in
    sorted_same (λ n. n) rows (due_rows 0 vertices) (rw map-id falls_not) (rw map-id (due_rows_rise vertices))
    (IsPermutation-trans _ _ _ (IsPermutation-sym _ _ moved) listed)
