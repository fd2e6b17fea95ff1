-- Greatest ranks and sums over what a function calls.
use Rattle.std.proofs.Common.{◌≡◌, ℕ, zero, suc, ◌+◌, ◌<◌, ◌≤◌, min, max, List, [], ◌∷◌, length, get_or, Option, Some, None, refl, ap, arith}
use Rattle.std.specs.Prelude.{sum_by}
use Rattle.std.proofs.lemmas.List.Sums.{sum_by-cons}
use Rattle.cost.specs.inside.Outline.{Summary, cap}
use Rattle.cost.specs.inside.Outlines.{calls_at, height_at}
use Rattle.verified.specs.CallHeights.{most}

greater : (a b c d : ℕ) → a ≡ b → c ≡ d → max a c ≡ max b d
greater a b c d e f = cc

-- equal ranks have one greatest
most_agree : (r s : ℕ → ℕ) (xs : List ℕ) → ((k : ℕ) → k < length xs → r (get_or xs k 0) ≡ s (get_or xs k 0)) → most r xs ≡ most s xs
most_agree r s [] h = refl
most_agree r s (x ∷ xs) h =
    greater (r x) (s x) (most r xs) (most s xs) (h 0 (omega arith)) (most_agree r s xs (λ k g. h (suc k) (omega arith)))

pub height_agree : (r s : ℕ → ℕ) (o : Option Summary) → ((k : ℕ) → k < length (calls_at o) → r (get_or (calls_at o) k 0) ≡ s (get_or (calls_at o) k 0)) → height_at r o ≡ height_at s o
height_agree r s None h = refl
height_agree r s (Some o) h = ap (λ n. 1 + n) (most_agree r s o.calls h)

-- none is above a common bound
pub most_within : (r : ℕ → ℕ) (xs : List ℕ) (rest bound : ℕ) → rest ≤ bound → ((g : ℕ) → r g + rest ≤ bound) → most r xs + rest ≤ bound
most_within r [] rest bound b h = omega arith
most_within r (x ∷ xs) rest bound b h =
    let i = most_within r xs rest bound b h in
    let j = h x in
    omega (arith, i, j)

pub height_within : (r : ℕ → ℕ) (o : Option Summary) (rest bound : ℕ) → rest ≤ bound → ((g : ℕ) → r g + rest ≤ bound) → height_at r o + rest ≤ bound + 1
height_within r None rest bound b h = omega arith
height_within r (Some o) rest bound b h = let i = most_within r o.calls rest bound b h in omega (arith, i)

-- each is at most the greatest
pub most_least : (r : ℕ → ℕ) (xs : List ℕ) (k : ℕ) → k < length xs → r (get_or xs k 0) ≤ most r xs
most_least r [] k h = absurd (omega arith)
most_least r (x ∷ xs) zero h = omega arith
most_least r (x ∷ xs) (suc k) h =
    let g : k < length xs = omega arith in
    let i = most_least r xs k g in
    omega (arith, i)

capped_first : (own a b s t : ℕ) → a ≡ min cap b → min cap (own + a + s) ≡ min cap (own + a + t) → min cap (own + (a + s)) ≡ min cap (own + b + t)
capped_first own a b s t e f = omega (arith, e, f)

-- to cap the parts of a sum is to cap the sum
pub capped_sum : (s t : ℕ → ℕ) (own : ℕ) (xs : List ℕ) → ((k : ℕ) → k < length xs → t (get_or xs k 0) ≡ min cap (s (get_or xs k 0))) → min cap (own + sum_by t xs) ≡ min cap (own + sum_by s xs)
capped_sum s t own [] h = refl
capped_sum s t own (x ∷ xs) h =
    let first = h 0 (omega arith) in
    let rest = capped_sum s t (own + t x) xs (λ k g. h (suc k) (omega arith)) in
    let a = sum_by-cons t x xs in
    let b = sum_by-cons s x xs in
    let e = capped_first own (t x) (s x) (sum_by t xs) (sum_by s xs) first rest in
    omega (arith, a, b, e)
