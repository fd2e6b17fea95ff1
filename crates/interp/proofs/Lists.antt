-- Lists that are cut, and turned round.
use Rattle.std.proofs.Common.{◌≡◌, ℕ, zero, suc, ◌+◌, ◌-◌, ◌≤◌, List, [], ◌∷◌, ◌++◌, length, take, drop, reverse, refl, sym, ap, ◌∙◌, arith}
use Rattle.std.proofs.lemmas.List.{reverse-append, length-reverse, take-append-drop}
use Rattle.std.proofs.Common.{length-drop}
use Rattle.std.proofs.Math.Seq.{take-append_seam, drop-append_seam}

module _ {A : Type 0} where
  pub take-length_is : (n : ℕ) (xs ys : List A) → n ≡ length xs → take n (xs ++ ys) ≡ xs
  take-length_is n xs ys e = ap (λ (k : ℕ). take k (xs ++ ys)) e ∙ take-append_seam xs ys

  pub drop-length_is : (n : ℕ) (xs ys : List A) → n ≡ length xs → drop n (xs ++ ys) ≡ ys
  drop-length_is n xs ys e = ap (λ (k : ℕ). drop k (xs ++ ys)) e ∙ drop-append_seam xs ys

  turned : (k : ℕ) (xs : List A) → reverse xs ≡ reverse (drop k xs) ++ reverse (take k xs)
  turned k xs = ap (λ (l : List A). reverse l) (sym (take-append-drop k xs)) ∙ reverse-append (take k xs) (drop k xs)

  left : (k n : ℕ) (xs : List A) → n ≡ length xs → n - k ≡ length (reverse (drop k xs))
  left k n xs e = omega (arith, length-reverse (drop k xs), length-drop k xs)

  pub take-reverse : (k n : ℕ) (xs : List A) → n ≡ length xs → take (n - k) (reverse xs) ≡ reverse (drop k xs)
  take-reverse k n xs e =
      ap (λ (l : List A). take (n - k) l) (turned k xs) ∙ take-length_is (n - k) (reverse (drop k xs)) (reverse (take k xs)) (left k n xs e)

  pub drop-reverse : (k n : ℕ) (xs : List A) → n ≡ length xs → drop (n - k) (reverse xs) ≡ reverse (take k xs)
  drop-reverse k n xs e =
      ap (λ (l : List A). drop (n - k) l) (turned k xs) ∙ drop-length_is (n - k) (reverse (drop k xs)) (reverse (take k xs)) (left k n xs e)

  pub take-take : (k n : ℕ) (xs : List A) → k ≤ n → take k (take n xs) ≡ take k xs
  take-take zero n xs h = refl
  take-take (suc k) zero xs h = absurd (omega arith)
  take-take (suc k) (suc n) [] h = refl
  take-take (suc k) (suc n) (x ∷ xs) h = ap (λ (l : List A). x ∷ l) (take-take k n xs (omega arith))

  -- what lies between two places, and what lies behind both
  pub drop-between : (k n : ℕ) (xs : List A) → k ≤ n → drop k xs ≡ drop k (take n xs) ++ drop n xs
  drop-between zero n xs h = sym (take-append-drop n xs)
  drop-between (suc k) zero xs h = absurd (omega arith)
  drop-between (suc k) (suc n) [] h = refl
  drop-between (suc k) (suc n) (x ∷ xs) h = drop-between k n xs (omega arith)

  -- a part on top, joined to what lies below it
  pub joined : (k n m : ℕ) (xs : List A) → k ≤ n → m ≡ length (take n xs) → reverse (drop k xs) ≡ reverse (drop n xs) ++ take (m - k) (reverse (take n xs))
  joined k n m xs h e =
      ap (λ (l : List A). reverse l) (drop-between k n xs h)
      ∙ reverse-append (drop k (take n xs)) (drop n xs)
      ∙ ap (λ (l : List A). reverse (drop n xs) ++ l) (sym (take-reverse k m (take n xs) e))

  pub left_below : (k n m : ℕ) (xs : List A) → k ≤ n → m ≡ length (take n xs) → reverse (take k xs) ≡ drop (m - k) (reverse (take n xs))
  left_below k n m xs h e =
      ap (λ (l : List A). reverse l) (sym (take-take k n xs h)) ∙ sym (drop-reverse k m (take n xs) e)

  drop-nil : (k : ℕ) → drop k (let e : List A = [] in e) ≡ []
  drop-nil zero = refl
  drop-nil (suc k) = refl

  pub drop-drop : (n k : ℕ) (xs : List A) → drop k (drop n xs) ≡ drop (n + k) xs
  drop-drop zero k xs = ap (λ (j : ℕ). drop j xs) (omega arith)
  drop-drop (suc n) k [] = drop-nil k ∙ sym (drop-nil (suc n + k))
  drop-drop (suc n) k (x ∷ xs) =
      let e : suc n + k ≡ suc (n + k) = omega arith in
      rw e (drop-drop n k xs)

  take-nil : (k : ℕ) → take k (let e : List A = [] in e) ≡ []
  take-nil zero = refl
  take-nil (suc k) = refl

  pub drop-take : (n k : ℕ) (xs : List A) → drop n (take (n + k) xs) ≡ take k (drop n xs)
  drop-take zero k xs = ap (λ (j : ℕ). take j xs) (omega arith)
  drop-take (suc n) k [] =
      let e : suc n + k ≡ suc (n + k) = omega arith in
      rw e (sym (take-nil k))
  drop-take (suc n) k (x ∷ xs) =
      let e : suc n + k ≡ suc (n + k) = omega arith in
      rw e (drop-take n k xs)
