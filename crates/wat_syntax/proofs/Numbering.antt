-- A name that takes a number.
use Rattle.std.proofs.Common.{◌≡◌, ◌<◌, ℕ, suc, List, [], ◌∷◌, ◌++◌, drop, Some, None, unwrap_or, Bool, true, false, cond, ◌⊎◌, inl, inr, refl, sym, ap, ◌∙◌, arith, bytes_eq}
use Rattle.std.proofs.lemmas.Slice.Eq.{bytes_eq-Decides}
use Rattle.wat_syntax.specs.declared.lexer.numbering.Numbering.{Numbering}
use Rattle.wat_syntax.specs.declared.lexer.token.Token.{Token}
use Rattle.wat_syntax.specs.Words.{first_word}
use Rattle.wat_syntax.specs.Numbering.{AreApart, AreNumbered, Grows, IsNumbered, number_of_name}

-- the name has this number from now on
abbrev pub Numbers : (old new : Numbering) → List ℕ → ℕ → Type 0
Numbers old new name n = (q : List ℕ) → number_of_name new q ≡ cond (bytes_eq name q) (Some n) (number_of_name old q)

module _ (old new : Numbering) (name : List ℕ) (n : ℕ) (numbers : Numbers old new name n) where
  -- a name that had a number keeps it, as this one had none
  keeps : number_of_name old name ≡ None → (q : List ℕ) (k : ℕ) → number_of_name old q ≡ Some k → number_of_name new q ≡ Some k
  keeps none q k had = by (bytes_eq name q) refl
    where
      by : (b : Bool) → bytes_eq name q ≡ b → number_of_name new q ≡ Some k
      by true e = let same : name ≡ q = (bytes_eq-Decides name q).0 e in absurd (cc (none, had, same))
      by false e = numbers q ∙ ap (λ b. cond b (Some n) (number_of_name old q)) e ∙ had

  -- a name with a number is this one, or it had that number before
  new_or_old : (q : List ℕ) (k : ℕ) → number_of_name new q ≡ Some k → ((name ≡ q) × (n ≡ k)) ⊎ (number_of_name old q ≡ Some k)
  new_or_old q k has = by (bytes_eq name q) refl
    where
      by : (b : Bool) → bytes_eq name q ≡ b → ((name ≡ q) × (n ≡ k)) ⊎ (number_of_name old q ≡ Some k)
      by true e = inl ((bytes_eq-Decides name q).0 e, ap (λ o. unwrap_or o 0) (sym (numbers q ∙ ap (λ b. cond b (Some n) (number_of_name old q)) e) ∙ has))
      by false e = inr (sym (numbers q ∙ ap (λ b. cond b (Some n) (number_of_name old q)) e) ∙ has)

  stay_apart : n ≡ old.count → new.count ≡ suc n → AreApart old → AreApart new
  stay_apart next count old_apart = record {
    below = λ q k has. is_below k (new_or_old q k has);
    apart = λ p q k has_p has_q. are_one p q k (new_or_old p k has_p) (new_or_old q k has_q);
  }
    where
      is_below : {q : List ℕ} (k : ℕ) → ((name ≡ q) × (n ≡ k)) ⊎ (number_of_name old q ≡ Some k) → k < new.count
      is_below k (inl e) = omega (arith, e.1, count)
      is_below k (inr e) = omega (arith, old_apart.below _ k e, next, count)

      are_one : (p q : List ℕ) (k : ℕ) → ((name ≡ p) × (n ≡ k)) ⊎ (number_of_name old p ≡ Some k) → ((name ≡ q) × (n ≡ k)) ⊎ (number_of_name old q ≡ Some k) → p ≡ q
      are_one p q k (inl e) (inl f) = sym e.0 ∙ f.0
      are_one p q k (inl e) (inr f) = absurd (omega (arith, e.1, next, old_apart.below _ k f))
      are_one p q k (inr e) (inl f) = absurd (omega (arith, f.1, next, old_apart.below _ k e))
      are_one p q k (inr e) (inr f) = old_apart.apart p q k e f

  pub grows : number_of_name old name ≡ None → n ≡ old.count → new.count ≡ suc n → Grows old new
  grows none next count = record { kept = keeps none; apart = stay_apart next count }

module _ (source : List ℕ) (old new : Numbering) (more : Grows old new) where
  pub still_numbered : (ts : List Token) (places : List ℕ) → AreNumbered source old ts places → AreNumbered source new ts places
  still_numbered [] [] h = tt
  still_numbered [] (p ∷ ps) h = absurd h
  still_numbered (t ∷ ts) [] h = absurd h
  still_numbered (t ∷ ts) (p ∷ ps) h = (λ n e. more.kept _ n (h.0 n e), still_numbered ts ps h.1)

  pub one_more : (ts : List Token) (places : List ℕ) (t : Token) (place : ℕ) → AreNumbered source old ts places
      → IsNumbered new (first_word (drop place source)) t → AreNumbered source new (ts ++ t ∷ []) (places ++ place ∷ [])
  one_more [] [] t place h is = (is, tt)
  one_more [] (p ∷ ps) t place h is = absurd h
  one_more (u ∷ ts) [] t place h is = absurd h
  one_more (u ∷ ts) (p ∷ ps) t place h is = (λ n e. more.kept _ n (h.0 n e), one_more ts ps t place h.1 is)
