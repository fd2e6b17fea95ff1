-- The operands' two parts.
use Rattle.std.proofs.Common.{◌≡◌, ℕ, ◌+◌, ◌-◌, ◌≤◌, List, [], ◌∷◌, ◌++◌, length, take, drop, reverse, sym, ap, ◌∙◌, subst, arith, length-drop}
use Rattle.std.proofs.lemmas.List.{reverse-append, length-reverse, length-take, length-take-le, drop-append-le, take-append-le, take-append-drop, drop_all, reverse-reverse}
use Rattle.std.proofs.Math.Seq.{take-length}
use Rattle.wasm_ast.specs.declared.types.Value.{Value}
use Rattle.interp.specs.inside.Split.{Below, Split, all_of}
use Rattle.interp.proofs.Lists.{joined, left_below, take-reverse, drop-reverse, take-take, drop-drop, drop-take}

abbrev pub parts : (room n : ℕ) → List Value → Split
parts r n xs = record { here = reverse (drop n xs); below = record { values = reverse (take n xs); room = r } }

below_long : (n : ℕ) (xs : List Value) → n ≤ length xs → length (reverse (take n xs)) ≡ n
below_long n xs h = length-reverse (take n xs) ∙ length-take-le n xs h

abbrev pub below_of : (room n : ℕ) → List Value → Below
below_of r n xs = record { values = reverse (take n xs); room = r }

module _ (r : ℕ) where
  pub floor_below : (n f : ℕ) (xs : List Value) (s : Split) → parts r n xs ≡ s → n ≤ length xs → f ≤ length s.below.values → f ≤ n
  floor_below n f xs s e h g =
      let P : Split → Type 0 = λ s. f ≤ length s.below.values → f ≤ n in
      subst P e (λ g. omega (arith, below_long n xs h, g)) g

  pub join_here : (n f : ℕ) (xs : List Value) (s : Split) → parts r n xs ≡ s → n ≤ length xs → f ≤ length s.below.values → reverse (drop f xs) ≡ s.here ++ take (length s.below.values - f) s.below.values
  join_here n f xs s e h g =
      let P : Split → Type 0 = λ s. reverse (drop f xs) ≡ s.here ++ take (length s.below.values - f) s.below.values in
      subst P e (joined f n (length (reverse (take n xs))) xs (floor_below n f xs s e h g) (length-reverse (take n xs)))

  pub join_below : (n f : ℕ) (xs : List Value) (s : Split) → parts r n xs ≡ s → n ≤ length xs → f ≤ length s.below.values → let b : Below = record { values = reverse (take f xs); room = r } in let d : Below = record { values = drop (length s.below.values - f) s.below.values; room = s.below.room } in b ≡ d
  join_below n f xs s e h g =
      let p : List Value → Below = λ l. record { values = l; room = r } in
      let cut : Split → Below = λ s. record { values = drop (length s.below.values - f) s.below.values; room = s.below.room } in
      ap p (left_below f n (length (reverse (take n xs))) xs (floor_below n f xs s e h g) (length-reverse (take n xs))) ∙ ap cut e

  -- the same where the part on top is dropped
  pub fall_here : (n f : ℕ) (xs ys : List Value) (s : Split) → parts r n xs ≡ s → n ≤ length xs → f ≤ length s.below.values → ys ≡ take n xs → reverse (drop f ys) ≡ take (length s.below.values - f) s.below.values
  fall_here n f xs ys s e h g cut =
      let P : Split → Type 0 = λ s. reverse (drop f ys) ≡ take (length s.below.values - f) s.below.values in
      subst P e (ap (λ (l : List Value). reverse (drop f l)) cut ∙ sym (take-reverse f (length (reverse (take n xs))) (take n xs) (length-reverse (take n xs))))

  pub fall_below : (n f : ℕ) (xs ys : List Value) (s : Split) → parts r n xs ≡ s → n ≤ length xs → f ≤ length s.below.values → ys ≡ take n xs → let b : Below = record { values = reverse (take f ys); room = r } in let d : Below = record { values = drop (length s.below.values - f) s.below.values; room = s.below.room } in b ≡ d
  fall_below n f xs ys s e h g cut =
      let p : List Value → Below = λ l. record { values = l; room = r } in
      let d : Split → Below = λ s. record { values = drop (length s.below.values - f) s.below.values; room = s.below.room } in
      ap p (ap (λ (l : List Value). reverse (take f l)) cut ∙ sym (drop-reverse f (length (reverse (take n xs))) (take n xs) (length-reverse (take n xs)))) ∙ ap d e

  pub opened : (n k : ℕ) (xs : List Value) (s : Split) → parts r n xs ≡ s → k ≡ length xs → let t : Split = record { here = []; below = record { values = s.here ++ s.below.values; room = s.below.room } } in parts r k xs ≡ t
  opened n k xs s e l =
      let P : Split → Type 0 = λ s. let t : Split = record { here = []; below = record { values = s.here ++ s.below.values; room = s.below.room } } in parts r k xs ≡ t in
      let a : drop k xs ≡ [] = drop_all k xs (omega arith) in
      let b : take k xs ≡ xs = ap (λ (j : ℕ). take j xs) l ∙ take-length xs in
      let d : reverse (take k xs) ≡ reverse (drop n xs) ++ reverse (take n xs) = ap (λ (l : List Value). reverse l) (b ∙ sym (take-append-drop n xs)) ∙ reverse-append (take n xs) (drop n xs) in
      let p : (h b : List Value) → Split = λ (h b : List Value). record { here = h; below = record { values = b; room = r } } in
      subst P e (ap (λ (l : List Value). p (reverse l) (reverse (take k xs))) a ∙ ap (λ (l : List Value). p [] l) d)

  pub top_fits : (n k : ℕ) (xs : List Value) (s : Split) → parts r n xs ≡ s → k ≤ length s.here → k ≤ length xs - n
  top_fits n k xs s e g =
      let P : Split → Type 0 = λ s. k ≤ length s.here → k ≤ length xs - n in
      subst P e (λ g. omega (arith, length-reverse (drop n xs), length-drop n xs, g)) g

  pub here_long : (n : ℕ) (xs : List Value) (s : Split) → parts r n xs ≡ s → length s.here ≡ length xs - n
  here_long n xs s e =
      let P : Split → Type 0 = λ s. length s.here ≡ length xs - n in
      subst P e (omega (arith, length-reverse (drop n xs), length-drop n xs))

  -- the topmost is taken off
  pub popped_is : (n : ℕ) (xs ys : List Value) (v : Value) (s : Split) → parts r n xs ≡ s → n ≤ length ys → xs ≡ ys ++ v ∷ [] → let t : Split = record { here = v ∷ reverse (drop n ys); below = record { values = reverse (take n ys); room = r } } in s ≡ t
  popped_is n xs ys v s e h g =
      let p : (h b : List Value) → Split = λ (h b : List Value). record { here = h; below = record { values = b; room = r } } in
      sym e ∙ ap (λ (l : List Value). parts r n l) g
      ∙ ap (λ (l : List Value). p (reverse l) (reverse (take n (ys ++ v ∷ [])))) (drop-append-le n ys (v ∷ []) h)
      ∙ ap (λ (l : List Value). p l (reverse (take n (ys ++ v ∷ [])))) (reverse-append (drop n ys) (v ∷ []))
      ∙ ap (λ (l : List Value). p (v ∷ reverse (drop n ys)) (reverse l)) (take-append-le n ys (v ∷ []) h)

  -- the topmost k, the lowest first
  pub topmost_is : (n k : ℕ) (xs : List Value) (s : Split) → parts r n xs ≡ s → n ≤ length xs → k ≤ length xs - n → drop (length xs - k) xs ≡ reverse (take k s.here)
  topmost_is n k xs s e h g =
      let P : Split → Type 0 = λ s. drop (length xs - k) xs ≡ reverse (take k s.here) in
      let j : ℕ = length xs - n - k in
      let a : take (length xs - n - j) (reverse (drop n xs)) ≡ reverse (drop j (drop n xs)) = take-reverse j (length xs - n) (drop n xs) (sym (length-drop n xs)) in
      let b : length xs - n - (length xs - n - k) ≡ k = omega arith in
      let d : n + (length xs - n - k) ≡ length xs - k = omega arith in
      let f : take k (reverse (drop n xs)) ≡ reverse (drop j (drop n xs)) = ap (λ (i : ℕ). take i (reverse (drop n xs))) (sym b) ∙ a in
      let z : reverse (take k (reverse (drop n xs))) ≡ drop j (drop n xs) = ap (λ (l : List Value). reverse l) f ∙ reverse-reverse (drop j (drop n xs)) in
      subst P e (sym (z ∙ drop-drop n j xs ∙ ap (λ (i : ℕ). drop i xs) d))

  pub shed_is : (n k : ℕ) (xs ys : List Value) (s : Split) → parts r n xs ≡ s → n ≤ length xs → k ≤ length xs - n → ys ≡ take (length xs - k) xs → let t : Split = record { here = drop k s.here; below = s.below } in parts r n ys ≡ t
  shed_is n k xs ys s e h g cut =
      let P : Split → Type 0 = λ s. let t : Split = record { here = drop k s.here; below = s.below } in parts r n ys ≡ t in
      let p : (h b : List Value) → Split = λ (h b : List Value). record { here = h; below = record { values = b; room = r } } in
      let j : ℕ = length xs - n - k in
      let b : length xs - n - (length xs - n - k) ≡ k = omega arith in
      let d : length xs - k ≡ n + (length xs - n - k) = omega arith in
      let cut' : ys ≡ take (n + j) xs = cut ∙ ap (λ (i : ℕ). take i xs) d in
      let here : reverse (drop n ys) ≡ drop k (reverse (drop n xs)) =
      ap (λ (l : List Value). reverse (drop n l)) cut' ∙ ap (λ (l : List Value). reverse l) (drop-take n j xs)
      ∙ sym (drop-reverse j (length xs - n) (drop n xs) (sym (length-drop n xs)))
      ∙ ap (λ (i : ℕ). drop i (reverse (drop n xs))) b in
      let below : reverse (take n ys) ≡ reverse (take n xs) =
      ap (λ (l : List Value). reverse (take n l)) cut' ∙ ap (λ (l : List Value). reverse l) (take-take n (n + j) xs (omega arith)) in
      subst P e (ap (λ (l : List Value). p l (reverse (take n ys))) here ∙ ap (λ (l : List Value). p (drop k (reverse (drop n xs))) l) below)

  -- those on top are dropped
  pub emptied : (n : ℕ) (xs ys : List Value) (s : Split) → parts r n xs ≡ s → ys ≡ take n xs → let t : Split = record { here = []; below = s.below } in parts r n ys ≡ t
  emptied n xs ys s e cut =
      let P : Split → Type 0 = λ s. let t : Split = record { here = []; below = s.below } in parts r n ys ≡ t in
      let p : (h b : List Value) → Split = λ (h b : List Value). record { here = h; below = record { values = b; room = r } } in
      let none : drop n (take n xs) ≡ [] = drop_all n (take n xs) (omega (arith, length-take n xs)) in
      let here : reverse (drop n ys) ≡ [] =
      ap (λ (l : List Value). reverse (drop n l)) cut ∙ ap (λ (l : List Value). reverse l) none in
      let below : reverse (take n ys) ≡ reverse (take n xs) =
      ap (λ (l : List Value). reverse (take n l)) cut ∙ ap (λ (l : List Value). reverse l) (take-take n n xs (omega arith)) in
      subst P e (ap (λ (l : List Value). p l (reverse (take n ys))) here ∙ ap (λ (l : List Value). p [] l) below)

  -- how many there are in both
  pub all_is : (n : ℕ) (xs : List Value) → n ≤ length xs → all_of (parts r n xs) ≡ length xs
  all_is n xs h = omega (arith, length-reverse (drop n xs), length-drop n xs, below_long n xs h)
