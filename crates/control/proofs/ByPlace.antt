-- Lists that are changed element by element.
use Rattle.std.proofs.Common.{◌≡◌, ℕ, zero, suc, ◌+◌, ◌*◌, ◌<◌, ◌≤◌, List, [], ◌∷◌, ◌++◌, length, take, drop, get_or, Bool, true, false, refl, sym, ap, ◌∙◌, arith, drop-cons, replicate}
use Rattle.std.proofs.lemmas.Grind.{common_steps}
use Rattle.std.specs.Prelude.{◌||◌}
use Rattle.std.proofs.Math.ListN.{set}
use Rattle.std.proofs.Math.Seq.{take-append_seam}
use Rattle.std.proofs.lemmas.List.{length-replicate}
use Rattle.control.specs.Machine.{by_place, count_set, either, none_set}

-- one element more
pub by_place_more : {A : Type 0} (f : ℕ → A → A) (k i : ℕ) (xs : List A) (d : A) → i < length xs → take (suc i) (set xs i (f k (get_or xs i d))) ++ by_place f (suc k) (drop (suc i) (set xs i (f k (get_or xs i d)))) ≡ take i xs ++ by_place f k (drop i xs)
by_place_more f k i [] d lt = absurd (omega arith)
by_place_more f k zero (x ∷ xs) d lt = refl
by_place_more f k (suc i) (x ∷ xs) d lt = ap (λ v. x ∷ v) (by_place_more f k i xs d (let l : i < length xs = omega arith in l))

pub length-by_place : {A : Type 0} (f : ℕ → A → A) (k : ℕ) (xs : List A) → length (by_place f k xs) ≡ length xs
length-by_place f k [] = refl
length-by_place f k (x ∷ xs) = ap (λ n. suc n) (length-by_place f (suc k) xs)

-- what a worker adds to a count
abbrev pub one : Bool → ℕ
one true = 1
one false = 0

pub count_cons : (b : Bool) (xs : List Bool) → count_set (b ∷ xs) ≡ one b + count_set xs
count_cons true xs = grind (arith, common_steps)
count_cons false xs = grind (arith, common_steps)

one_or : (a b : Bool) → one (a || b) ≤ one a + one b
one_or true b = omega arith
one_or false b = omega arith

count_from : (ws : List Bool) (k : ℕ) → count_set (drop k ws) ≡ one (get_or ws k false) + count_set (drop (suc k) ws)
count_from [] zero = refl
count_from [] (suc k) = refl
count_from (w ∷ ws) zero = count_cons w ws
count_from (w ∷ ws) (suc k) = count_from ws k

count_either_from : (ws : List Bool) (k : ℕ) (xs : List Bool) → count_set (by_place (λ w a. a || get_or ws w false) k xs) ≤ count_set xs + count_set (drop k ws)
count_either_from ws k [] = omega arith
count_either_from ws k (x ∷ xs) =
    let r = count_either_from ws (suc k) xs in
    let a = count_cons (x || get_or ws k false) (by_place (λ w a. a || get_or ws w false) (suc k) xs) in
    let b = count_cons x xs in
    let c = count_from ws k in
    let o = one_or x (get_or ws k false) in
    omega (arith, r, a, b, c, o)

pub count_either : (alive waiting : List Bool) → count_set (either alive waiting) ≤ count_set alive + count_set waiting
count_either alive waiting = count_either_from waiting 0 alive

pub count_none : (n : ℕ) → count_set (replicate n false) ≡ 0
count_none zero = refl
count_none (suc n) = count_none n

pub count_unset : (xs : List Bool) (i : ℕ) → get_or xs i false ≡ true → count_set (set xs i false) + 1 ≡ count_set xs
count_unset [] i h = absurd (cc)
count_unset (x ∷ xs) zero h = let a = count_cons x xs in let e : one x ≡ 1 = ap one h in omega (arith, a, e)
count_unset (x ∷ xs) (suc i) h = let r = count_unset xs i h in let a = count_cons x (set xs i false) in let b = count_cons x xs in omega (arith, r, a, b)

pub count_one_more : (xs : List Bool) (i : ℕ) → count_set (set xs i true) ≤ count_set xs + 1
count_one_more [] i = omega arith
count_one_more (x ∷ xs) zero = let a = count_cons x xs in let b = count_cons true xs in omega (arith, a, b)
count_one_more (x ∷ xs) (suc i) = let r = count_one_more xs i in let a = count_cons x (set xs i true) in let b = count_cons x xs in omega (arith, r, a, b)

pub count_small : (xs : List Bool) → count_set xs ≤ length xs
count_small [] = omega arith
count_small (true ∷ xs) = let r = count_small xs in let a = count_cons true xs in omega (arith, r, a)
count_small (false ∷ xs) = let r = count_small xs in omega (arith, r)

-- a slice that was lent whole and written whole
pub overwritten : {A : Type 0} (n : ℕ) (ys xs : List A) → length ys ≡ n → take n (ys ++ drop (length ys) xs) ≡ ys
overwritten n ys xs e = rw (← e) (take-append_seam ys (drop (length ys) xs))

-- those that wait have joined: as wide as before, and no more of them than there were of both
pub either_fits : (alive waiting : List Bool) → length waiting ≡ length alive → (length (either alive waiting) ≡ length alive) × (length (none_set waiting) ≡ length (either alive waiting)) × (count_set (either alive waiting) + 2 * count_set (none_set waiting) ≤ count_set alive + count_set waiting)
either_fits alive waiting e =
    let l : length (either alive waiting) ≡ length alive = length-by_place (λ w a. a || get_or waiting w false) 0 alive in
    let n : count_set (none_set waiting) ≡ 0 = count_none (length waiting) in
    let c = count_either alive waiting in
    (l, length-replicate (length waiting) false ∙ e ∙ sym l, omega (arith, n, c))

pub by_place_count : (f : ℕ → Bool → Bool) (i : ℕ) (xs : List Bool) → i < length xs → count_set (by_place f i (drop i xs)) ≡ one (f i (get_or xs i false)) + count_set (by_place f (suc i) (drop (suc i) xs))
by_place_count f i xs lt = rw (drop-cons xs i false) (count_cons (f i (get_or xs i false)) (by_place f (suc i) (drop (suc i) xs)))

taken_length : (n : ℕ) (xs : List Bool) → length (take n xs) ≤ n
taken_length zero xs = omega arith
taken_length (suc n) [] = omega arith
taken_length (suc n) (x ∷ xs) = let r = taken_length n xs in omega (arith, r)

-- a list of flags that was lent and written is no longer than it was
pub few_taken : (n : ℕ) (xs : List Bool) (most : ℕ) → n ≤ most → length (take n xs) ≤ most
few_taken n xs most few = let r = taken_length n xs in omega (arith, r, few)
