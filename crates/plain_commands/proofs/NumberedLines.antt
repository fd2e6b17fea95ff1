-- Numbered lines, one more at a time.
use Rattle.std.proofs.Common.{◌≡◌, ℕ, suc, ◌+◌, ◌-◌, ◌<◌, List, [], ◌∷◌, ◌++◌, length, get_or, take, ap, sym, ◌∙◌, arith, append_assoc}
use Rattle.std.proofs.lemmas.List.{append-nil, length-take-le, take_more}
use Rattle.call_lines.specs.OutputLines.{numbered_line, numbered_lines}

pushed : (word : List ℕ) (n : ℕ) (xs : List ℕ) (x : ℕ)
    → numbered_lines word n (xs ++ x ∷ []) ≡ numbered_lines word n xs ++ numbered_line word (n + length xs) x
pushed word n [] x =
    let here : n ≡ n + length {A = ℕ} [] = omega arith in
    append-nil (numbered_line word n x) ∙ ap (λ k. numbered_line word k x) here
pushed word n (y ∷ ys) x =
    let here : suc n + length ys ≡ n + length (y ∷ ys) = omega arith in
    let first = numbered_line word n y in
    ap (λ zs. first ++ zs) (pushed word (suc n) ys x)
    ∙ sym (append_assoc first (numbered_lines word (suc n) ys) (numbered_line word (suc n + length ys) x))
    ∙ ap (λ k. (first ++ numbered_lines word (suc n) ys) ++ numbered_line word k x) here

pub numbered_more : (word : List ℕ) (n : ℕ) (xs : List ℕ) (i d : ℕ) → i < length xs
    → numbered_lines word n (take i xs) ++ numbered_line word (n + i) (get_or xs i d) ≡ numbered_lines word n (take (i + 1) xs)
numbered_more word n xs i d below =
    sym (ap (numbered_lines word n) (take_more xs i d below) ∙ pushed word n (take i xs) (get_or xs i d)
    ∙ ap (λ k. numbered_lines word n (take i xs) ++ numbered_line word (n + k) (get_or xs i d))
    (length-take-le i xs (omega arith)))
