-- How a number is written a byte at a time, be it within 32 bits or not.
use Rattle.std.proofs.Common.{◌≡◌, ℕ, suc, ◌+◌, ◌-◌, ◌/◌, ◌%◌, ◌<◌, ◌≤◌, List, [], ◌∷◌, ◌++◌, refl, ap, sym, ◌∙◌, append_assoc, arith}
use Rattle.std.proofs.lemmas.Bool.{le-ltb}
use Rattle.std.proofs.lemmas.List.{append-nil}
use Rattle.leb.specs.Spelling.{shortest_unsigned}
use Rattle.leb.proofs.Writing.{shortest_unsigned-last}

more : (most less n : ℕ) → most ≡ suc less → 128 ≤ n → shortest_unsigned most n ≡ (n % 128 + 128) ∷ shortest_unsigned less (n / 128)
unfolding shortest_unsigned
more most less n is large = rw (is, le-ltb n 128 large) refl

none : (most n : ℕ) → most ≡ 0 → shortest_unsigned most n ≡ []
unfolding shortest_unsigned
none most n is = rw is refl

-- what is written after so many bytes, and what is still to be written
module _ (out whole : List ℕ) (k rest : ℕ) (so_far : out ++ shortest_unsigned (5 - k) rest ≡ whole) where
  pub count_goes_on : (next : List ℕ) → k < 5 → 128 ≤ rest → next ≡ out ++ (rest % 128 + 128) ∷ []
      → next ++ shortest_unsigned (5 - (k + 1)) (rest / 128) ≡ whole
  count_goes_on next below large is =
      ap (λ (xs : List ℕ). xs ++ shortest_unsigned (5 - (k + 1)) (rest / 128)) is
      ∙ append_assoc out ((rest % 128 + 128) ∷ []) (shortest_unsigned (5 - (k + 1)) (rest / 128))
      ∙ ap (λ (xs : List ℕ). out ++ xs) (sym (more (5 - k) (5 - (k + 1)) rest (omega arith) large))
      ∙ so_far

  pub count_ends : (next : List ℕ) → k < 5 → rest < 128 → next ≡ out ++ rest ∷ [] → next ≡ whole
  count_ends next below small is =
      is ∙ ap (λ (xs : List ℕ). out ++ xs) (sym (shortest_unsigned-last (5 - k) rest (omega arith) small)) ∙ so_far

  pub count_is_full : 5 ≤ k → out ≡ whole
  count_is_full past = sym (append-nil out) ∙ ap (λ (xs : List ℕ). out ++ xs) (sym (none (5 - k) rest (omega arith))) ∙ so_far
