-- What the words of a text mean to the functions that read them.
use Rattle.std.proofs.Common.{◌≡◌, ◌≢◌, ◌<◌, ◌^◌, ℕ, ℤ, zero, suc, ◌+◌, negsuc, w64, Bool, true, false, cond, eqb, List, [], ◌∷◌, ◌++◌, length, take, drop, Option, Some, None, ◌⊎◌, inl, inr, refl, sym, ap, ◌∙◌, Bor}
use Rattle.std.specs.Prelude.{nat_lt, nat_eq}
use Rattle.std.specs.Option.{MatchOption}
use Rattle.std.specs.Cmp.Lexicographic.{pointwise}
use Rattle.std.proofs.Math.Facts.{to_z-of_z}
use Rattle.std.proofs.lemmas.Bool.Decides.{Decides-eqb, eqb_tells}
use Rattle.std.proofs.lemmas.Slice.Eq.{strip_prefix_is}
use mir.Val.{to_z, of_z, SFits}
use borrow.Author.Tests.{ltb-true}
use Rattle.wat_syntax.specs.declared.lexer.token.Token.{Token}
use Rattle.wat_syntax.specs.declared.lexer.token.Token.TheVariants as token
use Rattle.wat_syntax.specs.inside.Tokens.{Tok, tok_of, signed}
use Rattle.wat_syntax.specs.inside.Lexing.{Means, as_negative, behind}

-- ---- numbers behind a minus

tells_if : (t : Token) (b : Bool) (x : Tok) → (b ≡ true → (source : List ℕ) → tok_of source t ≡ x) → Means t (cond b (Some x) None)
tells_if t true x h = h refl
tells_if t false x h = tt

some_same : {A : Type 0} (x y : A) → ◌≡◌ {A = Option A} (Some x) (Some y) → x ≡ y
some_same x y e = cc

pub negated_tells : (n : ℕ) (z : ℤ) → ((m : ℕ) → n ≡ suc m → m < 2 ^ 63 → ◌≡◌ {A = Option ℤ} (Some z) (Some (negsuc m)))
    → Means (token.Signed (to_z w64 (of_z w64 z))) (as_negative (Some n))
negated_tells zero z h = tt
negated_tells (suc m) z h =
    tells_if (token.Signed (to_z w64 (of_z w64 z))) (nat_lt m (2 ^ 63)) (signed (negsuc m)) (λ lt source.
    let small = ltb-true m (2 ^ 63) lt in
    let fits : SFits w64 (negsuc m) = record { sfits = small } in
    ap signed (ap (λ (x : ℤ). to_z w64 (of_z w64 x)) (some_same z (negsuc m) (h m refl small)) ∙ to_z-of_z fits))

pub not_negated_tells : (n : ℕ) → ((m : ℕ) → n ≡ suc m → m < 2 ^ 63 → ◌≡◌ {A = Option ℤ} None (Some (negsuc m)))
    → Means token.OutOfRange (as_negative (Some n))
not_negated_tells zero h = tt
not_negated_tells (suc m) h =
    tells_if token.OutOfRange (nat_lt m (2 ^ 63)) (signed (negsuc m)) (λ lt source. let e = h m refl (ltb-true m (2 ^ 63) lt) in absurd cc)

-- ---- words that begin with others

first_same : (p : ℕ) (ps bs rest : List ℕ) → behind ps bs ≡ Some rest → ((eqb p p ≡ true) × (p ≡ p)) ⊎ ((eqb p p ≡ false) × (p ≢ p)) → behind (p ∷ ps) (p ∷ bs) ≡ Some rest
first_same p ps bs rest e (inl h) = rw h.0 e
first_same p ps bs rest e (inr h) = absurd (h.1 refl)

pub behind_some : (front word rest : List ℕ) → word ≡ front ++ rest → behind front word ≡ Some rest
behind_some [] word rest e = ap Some e
behind_some (p ∷ ps) word rest e =
    ap (behind (p ∷ ps)) e ∙ first_same p ps (ps ++ rest) rest (behind_some ps (ps ++ rest) rest refl) (eqb_tells p p)

first_tried : (p b : ℕ) (ps bs : List ℕ) → (p ≡ b → behind ps bs ≡ None) → ((eqb p b ≡ true) × (p ≡ b)) ⊎ ((eqb p b ≡ false) × (p ≢ b)) → behind (p ∷ ps) (b ∷ bs) ≡ None
first_tried p b ps bs h (inl same) = rw same.0 (h same.1)
first_tried p b ps bs h (inr other) = rw other.0 refl

pub behind_none : (front word : List ℕ) → ((rest : List ℕ) → word ≢ front ++ rest) → behind front word ≡ None
behind_none [] word h = absurd (h word refl)
behind_none (p ∷ ps) [] h = refl
behind_none (p ∷ ps) (b ∷ bs) h = first_tried p b ps bs
    (λ same. behind_none ps bs (λ rest e. h rest (ap (λ (x : ℕ). x ∷ bs) (sym same) ∙ ap (λ (xs : List ℕ). p ∷ xs) e))) (eqb_tells p b)

abbrev pub IsBehind : List ℕ → List ℕ → Option (Bor (List ℕ)) → Type 0
IsBehind front word r =
    MatchOption r (pointwise nat_eq (take (length front) word) front ≡ false)
    (λ x. (pointwise nat_eq (take (length front) word) front ≡ true) × (x.now ≡ drop (length front) word) × (length x.now + length front ≡ length word))

pub stripped : (front word : List ℕ) (x : Bor (List ℕ)) → IsBehind front word (Some x) → behind front word ≡ Some x.now
stripped front word x h = behind_some front word x.now (strip_prefix_is Decides-eqb word front (Some x) h)

pub not_stripped : (front word : List ℕ) → IsBehind front word None → behind front word ≡ None
not_stripped front word h = behind_none front word (strip_prefix_is Decides-eqb word front None h)
