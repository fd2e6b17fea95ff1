-- What is left of a text.
use Rattle.std.proofs.Common.{◌≡◌, ◌≤◌, ◌-◌, ◌+◌, ℕ, List, Option, Some, None, Result, Ok, Err, Bor, length, take, drop, sym, ap, subst, ◌∙◌, arith}
use Rattle.std.specs.Prelude.{IfSome, IfOk}
use Rattle.std.proofs.lemmas.List.{drop-drop, length-drop, take_all}
use Rattle.wat_syntax.specs.inside.Lexing.{IsLeft}

pub left_behind : (text : List ℕ) (k : ℕ) → k ≤ length text → IsLeft text (drop k text)
left_behind text k within =
    let size : length (drop k text) ≡ length text - k = length-drop k text in
    let place : k ≡ length text - length (drop k text) = omega (arith, size) in
    record { within = omega (arith, size); behind_some = ap (λ n. drop n text) place }

pub left_after : (text rest after : List ℕ) → IsLeft text rest → IsLeft rest after → IsLeft text after
left_after text rest after l r =
    let place : (length text - length rest) + (length rest - length after) ≡ length text - length after = omega (arith, l.within, r.within) in
    record {
      within = omega (arith, l.within, r.within);
      behind_some =
          r.behind_some ∙ ap (drop (length rest - length after)) l.behind_some
          ∙ drop-drop (length rest - length after) (length text - length rest) text
          ∙ ap (λ n. drop n text) place;
    }

pub left_all : (text : List ℕ) → IsLeft text text
left_all text = left_behind text 0 (omega arith)

-- as a slice of all but the first bytes
abbrev pub tail_of : ℕ → List ℕ → List ℕ
tail_of k text = take (length text - k) (drop k text)

pub left_tail : (text : List ℕ) (k : ℕ) → k ≤ length text → IsLeft text (tail_of k text)
left_tail text k within =
    let same : tail_of k text ≡ drop k text = take_all (length text - k) (drop k text) (omega (arith, length-drop k text)) in
    subst (IsLeft text) (sym same) (left_behind text k within)

pub left_further : (text rest : List ℕ) (k : ℕ) → IsLeft text rest → k ≤ length rest → IsLeft text (tail_of k rest)
left_further text rest k l within = left_after text rest (tail_of k rest) l (left_tail rest k within)

-- what another function leaves of all but the first bytes
pub left_from : {A : Type 0} (text : List ℕ) (k : ℕ) (result : Option (A × Bor (List ℕ))) → k ≤ length text
    → IfSome result (λ x. IsLeft (tail_of k text) x.1.now) → IfSome result (λ x. IsLeft text x.1.now)
left_from text k None within h = h
left_from text k (Some x) within h = left_after text (tail_of k text) x.1.now (left_tail text k within) h

pub left_read : {A E : Type 0} (text : List ℕ) (k : ℕ) (result : Result (A × Bor (List ℕ)) E) → k ≤ length text
    → IfOk result (λ x. IsLeft (tail_of k text) x.1.now) → IfOk result (λ x. IsLeft text x.1.now)
left_read text k (Ok x) within h = left_after text (tail_of k text) x.1.now (left_tail text k within) h
left_read text k (Err e) within h = h

-- for functions that answer what is left
pub ruleset left = (left_behind, left_after, left_all)
