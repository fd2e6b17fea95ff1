-- The rows of due vertices: of more vertices, of none that are due, and that they rise.
use Rattle.std.proofs.Common.{◌≡◌, ◌<◌, ◌+◌, ℕ, suc, Bool, true, false, eqb, not, cond, ◌||◌, List, [], ◌∷◌, ◌++◌, length, get_or, take, drop, refl, ap, sym, ◌∙◌, arith}
use Rattle.std.proofs.lemmas.Bool.{ne_eqb}
use Rattle.std.proofs.lemmas.Bool.Decides.{nat_tests}
use Rattle.std.proofs.lemmas.List.{length-take-le, take_more}
use Rattle.std.proofs.lemmas.Map.Keys.{IsStrictlyIncreasing-from_sorted}
use Rattle.std.specs.List.{AllByRecursion, list_any}
use Rattle.std.specs.List.Sorted.{IsStrictlyIncreasing, IsStrictlySortedBy}
use Rattle.std.specs.Ordering.{nat_cmp}
use Rattle.std.specs.declared.cmp.Ordering.TheVariants.{Less}
use Rattle.job_state.specs.declared.state.VertexState.{VertexState}
use Rattle.job_state.specs.State.{is_due}
use Rattle.job_state.specs.inside.DueRows.{due_rows}

abbrev pub Idle : VertexState → Type 0
Idle vertex = is_due vertex ≡ false

-- one row, where its vertex is due
abbrev pub row_if : Bool → ℕ → List ℕ
row_if due row = cond due (row ∷ []) []

first_of : (due : Bool) (row : ℕ) (rows : List ℕ) → cond due (row ∷ rows) rows ≡ row_if due row ++ rows
first_of true row rows = refl
first_of false row rows = refl

pub due_rows-append : (row : ℕ) (one other : List VertexState) → due_rows row (one ++ other) ≡ due_rows row one ++ due_rows (row + length one) other
due_rows-append row [] other = ap (λ n. due_rows n other) (omega arith)
due_rows-append row (vertex ∷ one) other =
    choose (is_due vertex) (due_rows-append (row + 1) one other ∙ ap (λ n. due_rows (row + 1) one ++ due_rows n other) (omega arith))
  where
    choose : (due : Bool) → due_rows (row + 1) (one ++ other) ≡ due_rows (row + 1) one ++ due_rows (row + suc (length one)) other
        → cond due (row ∷ due_rows (row + 1) (one ++ other)) (due_rows (row + 1) (one ++ other))
        ≡ cond due (row ∷ due_rows (row + 1) one) (due_rows (row + 1) one) ++ due_rows (row + suc (length one)) other
    choose true rest = ap (λ rows. row ∷ rows) rest
    choose false rest = rest

-- one vertex more
pub due_rows_more : (vertices : List VertexState) (i : ℕ) (d : VertexState) → i < length vertices
    → due_rows 0 (take (i + 1) vertices) ≡ due_rows 0 (take i vertices) ++ row_if (is_due (get_or vertices i d)) i
due_rows_more vertices i d below =
    ap (due_rows 0) (take_more vertices i d below)
    ∙ due_rows-append 0 (take i vertices) (get_or vertices i d ∷ [])
    ∙ ap (λ n. due_rows 0 (take i vertices) ++ due_rows n (get_or vertices i d ∷ [])) (omega (arith, length-take-le i vertices))

pub settled : (row : ℕ) (vertices : List VertexState) → due_rows row vertices ≡ [] → list_any is_due vertices ≡ false
settled row [] none = refl
settled row (vertex ∷ vertices) none = choose (is_due vertex) refl none (λ later. settled (row + 1) vertices later)
  where
    choose : (due : Bool) → is_due vertex ≡ due → cond due (row ∷ due_rows (row + 1) vertices) (due_rows (row + 1) vertices) ≡ []
        → (due_rows (row + 1) vertices ≡ [] → list_any is_due vertices ≡ false) → (is_due vertex || list_any is_due vertices) ≡ false
    choose true is none rest = cc
    choose false is none rest = ap (λ b. b || list_any is_due vertices) is ∙ rest none

pub unsettled : (row : ℕ) (vertices : List VertexState) → 0 < length (due_rows row vertices) → list_any is_due vertices ≡ true
unsettled row [] some = absurd (omega arith)
unsettled row (vertex ∷ vertices) some = choose (is_due vertex) refl some (λ later. unsettled (row + 1) vertices later)
  where
    choose : (due : Bool) → is_due vertex ≡ due → 0 < length (cond due (row ∷ due_rows (row + 1) vertices) (due_rows (row + 1) vertices))
        → (0 < length (due_rows (row + 1) vertices) → list_any is_due vertices ≡ true) → (is_due vertex || list_any is_due vertices) ≡ true
    choose true is some rest = ap (λ b. b || list_any is_due vertices) is
    choose false is some rest = ap (λ b. b || list_any is_due vertices) is ∙ rest some

pub none_due : (row : ℕ) (vertices : List VertexState) → due_rows row vertices ≡ [] → AllByRecursion Idle vertices
none_due row [] none = tt
none_due row (vertex ∷ vertices) none = choose (is_due vertex) refl none (λ later. none_due (row + 1) vertices later)
  where
    choose : (due : Bool) → is_due vertex ≡ due → cond due (row ∷ due_rows (row + 1) vertices) (due_rows (row + 1) vertices) ≡ []
        → (due_rows (row + 1) vertices ≡ [] → AllByRecursion Idle vertices) → (is_due vertex ≡ false) × AllByRecursion Idle vertices
    choose true is none rest = absurd (omega (arith, ap length none))
    choose false is none rest = (is, rest none)

-- The first of the due rows: the vertices before it are not due.
pub record IsFirstDue (from : ℕ) (vertices : List VertexState) (row : ℕ) (rows : List ℕ) : Type 0 where
  pub count : ℕ
  pub is : row ≡ from + count
  pub inside : count < length vertices
  pub idle : AllByRecursion Idle (take count vertices)
  pub later : rows ≡ due_rows (row + 1) (drop (suc count) vertices)

pub first_due : (from : ℕ) (vertices : List VertexState) (row : ℕ) (rows : List ℕ) → due_rows from vertices ≡ row ∷ rows → IsFirstDue from vertices row rows
first_due from [] row rows same = cc
first_due from (vertex ∷ vertices) row rows same = choose (is_due vertex) refl same (λ later. first_due (from + 1) vertices row rows later)
  where
    choose : (due : Bool) → is_due vertex ≡ due → cond due (from ∷ due_rows (from + 1) vertices) (due_rows (from + 1) vertices) ≡ row ∷ rows
        → (due_rows (from + 1) vertices ≡ row ∷ rows → IsFirstDue (from + 1) vertices row rows) → IsFirstDue from (vertex ∷ vertices) row rows
    choose true is same rest_first =
        let first : from ≡ row = cc in
        let rest : due_rows (from + 1) vertices ≡ rows = cc in
        record {
          count = 0;
          is = sym first ∙ omega arith;
          inside = omega arith;
          idle = tt;
          later = sym rest ∙ ap (λ n. due_rows (n + 1) vertices) first;
        }
    choose false is same rest_first =
        let next = rest_first same in
        record {
          count = suc next.count;
          is = next.is ∙ omega arith;
          inside = omega (arith, next.inside);
          idle = (is, next.idle);
          later = next.later;
        }

-- ---- they rise

less : (n row : ℕ) → n < row → nat_cmp n row ≡ Less
less n row below = grind (arith, nat_tests)

at_least : (n row : ℕ) (vertices : List VertexState) → n < row → AllByRecursion (λ other. nat_cmp n other ≡ Less) (due_rows row vertices)
at_least n row [] below = tt
at_least n row (vertex ∷ vertices) below = choose (is_due vertex) (at_least n (row + 1) vertices (omega arith))
  where
    choose : (due : Bool) → AllByRecursion (λ other. nat_cmp n other ≡ Less) (due_rows (row + 1) vertices)
        → AllByRecursion (λ other. nat_cmp n other ≡ Less) (cond due (row ∷ due_rows (row + 1) vertices) (due_rows (row + 1) vertices))
    choose true rest = (less n row below, rest)
    choose false rest = rest

sorted : (row : ℕ) (vertices : List VertexState) → IsStrictlySortedBy nat_cmp (due_rows row vertices)
unfolding IsStrictlySortedBy
sorted row [] = tt
sorted row (vertex ∷ vertices) = choose (is_due vertex) (sorted (row + 1) vertices)
  where
    choose : (due : Bool) → IsStrictlySortedBy nat_cmp (due_rows (row + 1) vertices) → IsStrictlySortedBy nat_cmp (cond due (row ∷ due_rows (row + 1) vertices) (due_rows (row + 1) vertices))
    choose true rest = (at_least row (row + 1) vertices (omega arith), rest)
    choose false rest = rest

pub due_rows_rise : (vertices : List VertexState) → IsStrictlyIncreasing (due_rows 0 vertices)
due_rows_rise vertices = IsStrictlyIncreasing-from_sorted (due_rows 0 vertices) (sorted 0 vertices)

-- no row is due where no vertex is
pub settled_is : (due : List ℕ) (vertices : List VertexState) (result : Bool) → due ≡ due_rows 0 vertices → result ≡ eqb (length due) 0 → result ≡ not (list_any is_due vertices)
settled_is [] vertices result is told = told ∙ sym (ap not (settled 0 vertices (sym is)))
settled_is (row ∷ due) vertices result is told =
    told ∙ ne_eqb (length (row ∷ due)) 0 (λ e. omega arith) ∙ sym (ap not (unsettled 0 vertices (omega (arith, ap length is))))
