-- Inboxes given to the vertices of a part, one after another: the vertices so far, and those that are due.
use Rattle.std.proofs.Common.{◌≡◌, ℕ, ℤ, zero, suc, ◌+◌, ◌<◌, ◌≤◌, List, [], ◌∷◌, ◌++◌, Option, None, Some, IsSome, drop, get_or, inl, inr, length, refl, rules, set, take, ap, sym, ◌∙◌, arith}
use Rattle.std.proofs.lemmas.Bool.Decides.{eqb_tells}
use Rattle.std.proofs.lemmas.List.{get_or-set_other, get_or-set_same, get_or_default, length-set, length-take-le, same_lists, set-get_or, take_more_set}
use Rattle.std.specs.Option.{option_to_list}
use Rattle.std.specs.Prelude.{◌↔◌}
use Rattle.job_state.specs.declared.state.VertexState.{VertexState}
use Rattle.job_state.specs.State.{is_due}
use Rattle.job_state.specs.inside.Filled.{filled, with_inbox, with_some_inbox}
use Rattle.job_state.specs.inside.DueRows.{due_rows}
use Rattle.job_state.proofs.DueRows.{due_rows-append, row_if}

-- what stands first in what is left stands at that place
first_left : {X : Type 0} (xs : List X) (i : ℕ) (x d : X) (rest : List X) → drop i xs ≡ x ∷ rest → (i < length xs) × (get_or xs i d ≡ x) × (rest ≡ drop (i + 1) xs)
first_left [] zero x d rest same = absurd (omega (arith, ap length same))
first_left [] (suc i) x d rest same = absurd (omega (arith, ap length same))
first_left (y ∷ ys) zero x d rest same = let first : y ≡ x = cc in let behind : rest ≡ ys = cc in (omega arith, first, behind)
first_left (y ∷ ys) (suc i) x d rest same =
    let later = first_left ys i x d rest same in
    let next : suc i + 1 ≡ suc (i + 1) = omega arith in
    (omega (arith, later.0), later.1, later.2 ∙ ap (λ n. drop n (y ∷ ys)) (sym next))

none_left : {X : Type 0} (xs : List X) (i : ℕ) → drop i xs ≡ [] → (length xs ≤ i) × (drop (i + 1) xs ≡ [])
none_left [] zero same = (omega arith, refl)
none_left [] (suc i) same = (omega arith, search rules)
none_left (y ∷ ys) zero same = absurd (omega (arith, ap length same))
none_left (y ∷ ys) (suc i) same =
    let later = none_left ys i same in
    let next : suc i + 1 ≡ suc (i + 1) = omega arith in
    (omega (arith, later.0), ap (λ n. drop n (y ∷ ys)) next ∙ later.1)

filled_long : (vertices : List VertexState) (inboxes : List (List ℤ)) → length vertices ≡ length inboxes → length (filled (vertices, inboxes)) ≡ length vertices
filled_long [] inboxes same = refl
filled_long (vertex ∷ vertices) [] same = absurd (omega (arith, same))
filled_long (vertex ∷ vertices) (inbox ∷ inboxes) same = ap suc (filled_long vertices inboxes (omega (arith, same)))

filled_at : (vertices : List VertexState) (inboxes : List (List ℤ)) (k : ℕ) (d : VertexState) → length vertices ≡ length inboxes → k < length vertices
    → get_or (filled (vertices, inboxes)) k d ≡ with_inbox (get_or vertices k d, get_or inboxes k [])
filled_at [] inboxes k d same below = absurd (omega arith)
filled_at (vertex ∷ vertices) [] k d same below = absurd (omega (arith, same))
filled_at (vertex ∷ vertices) (inbox ∷ inboxes) zero d same below = refl
filled_at (vertex ∷ vertices) (inbox ∷ inboxes) (suc k) d same below = filled_at vertices inboxes k d (omega (arith, same)) (omega (arith, below))

-- The vertices before this row have their inboxes, and the others are as they were.
pub record IsFilledTo (row : ℕ) (old : List VertexState) (inboxes : List (List ℤ)) (vertices : List VertexState) (left : List (List ℤ)) : Type 0 where
  pub rest : left ≡ drop row inboxes
  pub long : length vertices ≡ length old
  pub done : (k : ℕ) (d : VertexState) → k < row → k < length inboxes
      → get_or vertices k d ≡ with_inbox (get_or old k d, get_or inboxes k [])
  pub same : (k : ℕ) (d : VertexState) → row ≤ k → get_or vertices k d ≡ get_or old k d

pub filled_none : (old : List VertexState) (inboxes rest : List (List ℤ)) → rest ≡ inboxes → IsFilledTo 0 old inboxes old rest
filled_none old inboxes rest is = record {
  rest = is;
  long = refl;
  done = λ k d before within. absurd (omega arith);
  same = λ k d late. refl;
}

-- one row more
pub filled_more : (row : ℕ) (old : List VertexState) (inboxes : List (List ℤ)) (vertices : List VertexState) (rest later : List (List ℤ))
    (next : Option (List ℤ)) (vertex changed : VertexState)
    → IsFilledTo row old inboxes vertices rest → row < length vertices → rest ≡ option_to_list next ++ later
    → (count : ℕ) → count ≡ length rest → (IsSome next ↔ (0 < count))
    → vertex ≡ get_or vertices row vertex → changed ≡ with_some_inbox vertex next
    → IsFilledTo (row + 1) old inboxes (set vertices row changed) later
filled_more row old inboxes vertices rest later (Some inbox) vertex changed before below given count counts some is put =
    let found = first_left inboxes row inbox [] later (sym before.rest ∙ given) in
    record {
      rest = found.2;
      long = length-set vertices row changed ∙ before.long;
      done = λ k d early within. elim (eqb_tells k row) [
        | inl h ↦
            let own : vertex ≡ get_or old k d =
            is ∙ get_or_default vertices row vertex d below ∙ before.same row d (omega arith) ∙ ap (λ n. get_or old n d) (sym h.1) in
            let own_inbox : inbox ≡ get_or inboxes k [] = sym found.1 ∙ ap (λ n. get_or inboxes n []) (sym h.1) in
            ap (λ n. get_or (set vertices row changed) n d) h.1
            ∙ get_or-set_same vertices row changed d below ∙ put ∙ (λ j. with_inbox (own j, own_inbox j))
        | inr h ↦ get_or-set_other vertices row k changed d h.1 ∙ before.done k d (omega (arith, h.1, early)) within
      ];
      same = λ k d late. get_or-set_other vertices row k changed d (λ e. omega (arith, e, late)) ∙ before.same k d (omega (arith, late));
    }
filled_more row old inboxes vertices rest later None vertex changed before below given count counts some is put =
    let nothing : rest ≡ [] = empty rest count counts some.1 in
    let none = none_left inboxes row (sym before.rest ∙ nothing) in
    let stays : set vertices row changed ≡ vertices =
    ap (set vertices row) (put ∙ is) ∙ set-get_or vertices row vertex in
    record {
      rest = sym given ∙ nothing ∙ sym none.1;
      long = ap length stays ∙ before.long;
      done = λ k d early within. ap (λ xs. get_or xs k d) stays ∙ before.done k d (omega (arith, early, within, none.0)) within;
      same = λ k d late. ap (λ xs. get_or xs k d) stays ∙ before.same k d (omega (arith, late));
    }
  where
    empty : (rest : List (List ℤ)) (count : ℕ) → count ≡ length rest → (0 < count → IsSome {T = List ℤ} None) → rest ≡ []
    empty [] count counts none = refl
    empty (inbox ∷ rest) count counts none = let some : IsSome {T = List ℤ} None = none (omega arith) in cc

-- all rows
pub filled_all : (row : ℕ) (old : List VertexState) (inboxes : List (List ℤ)) (vertices : List VertexState) (rest : List (List ℤ))
    → IsFilledTo row old inboxes vertices rest → length vertices ≤ row → length old ≡ length inboxes → vertices ≡ filled (old, inboxes)
filled_all row old inboxes vertices rest is over same =
    same_lists vertices (filled (old, inboxes)) (is.long ∙ sym (filled_long old inboxes same))
    (λ k d below.
    let inside : k < length old = rw (← is.long) below in
    is.done k d (omega arith) (rw (← same) inside) ∙ sym (filled_at old inboxes k d same inside))

-- the due rows, of which one more is known
pub due_rows_filled : (vertices : List VertexState) (row : ℕ) (changed : VertexState) → row < length vertices
    → due_rows 0 (take (row + 1) (set vertices row changed)) ≡ due_rows 0 (take row vertices) ++ row_if (is_due changed) row
due_rows_filled vertices row changed below =
    ap (due_rows 0) (take_more_set vertices row changed below)
    ∙ due_rows-append 0 (take row vertices) (changed ∷ [])
    ∙ ap (λ n. due_rows 0 (take row vertices) ++ due_rows n (changed ∷ [])) (omega (arith, length-take-le row vertices))
