-- What due vertices are found to have is what all of them are.
use Rattle.std.proofs.Common.{◌≡◌, ◌<◌, ◌+◌, ℕ, suc, List, [], ◌∷◌, ◌++◌, length, get_or, take, drop, refl, ap, sym, subst, ◌∙◌, arith}
use Rattle.std.proofs.lemmas.List.{drop-drop, drop-take, length-drop, take-append-drop, take-take, take_all, take_more}
use Rattle.std.proofs.lemmas.List.Sums.{fold-append}
use Rattle.std.specs.List.{AllByRecursion, fold}
use Rattle.job_state.specs.declared.found.Found.{Found}
use Rattle.job_state.specs.declared.state.VertexState.{VertexState}
use Rattle.job_state.specs.Found.{nothing_found, with_vertex}
use Rattle.job_state.specs.inside.DueRows.{due_rows}
use Rattle.job_state.proofs.DueRows.{Idle, first_due, none_due}

-- Some vertices are counted, and these are the due rows of the others.
pub record IsCounting (vertices : List VertexState) (due : List ℕ) (found : Found) : Type 0 where
  pub row : ℕ
  pub waiting : due ≡ due_rows row (drop row vertices)
  pub counted : found ≡ fold with_vertex nothing_found (take row vertices)

idle_counts : (found : Found) (vertices : List VertexState) → AllByRecursion Idle vertices → fold with_vertex found vertices ≡ found
idle_counts found [] idle = refl
idle_counts found (vertex ∷ vertices) idle = rw idle.0 (idle_counts found vertices idle.1)

split : {X : Type 0} (i count : ℕ) (xs : List X) → take (i + count) xs ≡ take i xs ++ take count (drop i xs)
split {X} i count xs =
    sym (take-append-drop i (take (i + count) xs))
    ∙ ap (λ (front : List X). front ++ drop i (take (i + count) xs)) (take-take i (i + count) xs (omega arith))
    ∙ ap (λ (back : List X). take i xs ++ back) (drop-take i count xs)

-- up to the next due row
upto : (vertices : List VertexState) (i count : ℕ) (found : Found) → AllByRecursion Idle (take count (drop i vertices)) → found ≡ fold with_vertex nothing_found (take i vertices)
    → found ≡ fold with_vertex nothing_found (take (i + count) vertices)
upto vertices i count found idle counted =
    counted
    ∙ sym (idle_counts (fold with_vertex nothing_found (take i vertices)) (take count (drop i vertices)) idle)
    ∙ sym (fold-append with_vertex nothing_found (take i vertices) (take count (drop i vertices)))
    ∙ ap (fold with_vertex nothing_found) (sym (split i count vertices))

pub counts_inside : (vertices : List VertexState) (row : ℕ) (rows due : List ℕ) (found : Found) → due ≡ row ∷ rows → IsCounting vertices due found → row < length vertices
counts_inside vertices row rows due found is counting =
    let first = first_due counting.row (drop counting.row vertices) row rows (sym counting.waiting ∙ is) in
    omega (arith, first.inside, first.is, length-drop counting.row vertices)

pub one_counted : (vertices : List VertexState) (row : ℕ) (rows due : List ℕ) (found : Found) (vertex : VertexState) → due ≡ row ∷ rows → vertex ≡ get_or vertices row vertex
    → IsCounting vertices due found → IsCounting vertices rows (with_vertex found vertex)
one_counted vertices row rows due found vertex is read counting =
    let first = first_due counting.row (drop counting.row vertices) row rows (sym counting.waiting ∙ is) in
    let below = counts_inside vertices row rows due found is counting in
    let before : found ≡ fold with_vertex nothing_found (take row vertices) =
    upto vertices counting.row first.count found first.idle counting.counted ∙ ap (λ n. fold with_vertex nothing_found (take n vertices)) (sym first.is) in
    record {
      row = row + 1;
      waiting =
          first.later
          ∙ ap (λ (xs : List VertexState). due_rows (row + 1) xs) (drop-drop (suc first.count) counting.row vertices ∙ ap (λ n. drop n vertices) (omega (arith, first.is)));
      counted =
          ap (λ all. with_vertex all vertex) before
          ∙ ap (λ v. with_vertex (fold with_vertex nothing_found (take row vertices)) v) read
          ∙ sym (ap (fold with_vertex nothing_found) (take_more vertices row vertex below)
          ∙ fold-append with_vertex nothing_found (take row vertices) (get_or vertices row vertex ∷ []));
    }

pub all_counted : (vertices : List VertexState) (found : Found) (due : List ℕ) → due ≡ [] → IsCounting vertices due found → found ≡ fold with_vertex nothing_found vertices
all_counted vertices found due none counting =
    let i = counting.row in
    let rest = drop i vertices in
    let idle : AllByRecursion Idle (take (length rest) rest) =
    subst (λ (xs : List VertexState). AllByRecursion Idle xs) (sym (take_all (length rest) rest (omega arith))) (none_due i rest (sym counting.waiting ∙ none)) in
    upto vertices i (length rest) found idle counting.counted
    ∙ ap (fold with_vertex nothing_found) (take_all (i + length rest) vertices (omega (arith, length-drop i vertices)))
