-- What is escaped in a string is read again.
use Rattle.std.proofs.Common.{◌≡◌, ◌≢◌, ◌<◌, ◌≤◌, ◌+◌, ◌-◌, ◌*◌, ◌/◌, ◌%◌, ℕ, Bool, true, false, cond, List, [], ◌∷◌, ◌++◌, Some, None, ◌⊎◌, inl, inr, refl, ap, subst, ◌∙◌, append_assoc, arith}
use Rattle.std.specs.List.{AllByRecursion}
use Rattle.std.specs.Prelude.{nat_eq, nat_le, nat_lt}
use Rattle.std.specs.Fmt.{digit_glyph}
use Rattle.std.proofs.lemmas.Bool.{ne_eqb}
use Rattle.wat_syntax.specs.Quoted.{needs_no_escape, escape, escaped, quoted}
use Rattle.wat_syntax.specs.inside.Strings.{hex_digit, plain, onto, quote_at}

le_test : (a b : ℕ) → a ≤ b → nat_le a b ≡ true
le_test a b h = grind arith

gt_test : (a b : ℕ) → b < a → nat_le a b ≡ false
gt_test a b h = grind arith

hex_small : (d : ℕ) → d < 10 → hex_digit (48 + d) ≡ Some d
hex_small d lt =
    let same : 48 + d - 48 ≡ d = omega arith in
    rw (le_test 48 (48 + d) (omega arith), le_test (48 + d) 57 (omega arith)) (ap Some same)

hex_large : (d : ℕ) → 10 ≤ d → d < 16 → hex_digit (87 + d) ≡ Some d
hex_large d ge lt =
    let same : 87 + d - 87 ≡ d = omega arith in
    rw (le_test 48 (87 + d) (omega arith), gt_test (87 + d) 57 (omega arith), le_test 97 (87 + d) (omega arith), le_test (87 + d) 102 (omega arith)) (ap Some same)

below_or_not : (d : ℕ) → ((nat_lt d 10 ≡ true) × (d < 10)) ⊎ ((nat_lt d 10 ≡ false) × (10 ≤ d))
below_or_not d = by_test (nat_lt d 10) refl
  where
    by_test : (b : Bool) → nat_lt d 10 ≡ b → ((nat_lt d 10 ≡ true) × (d < 10)) ⊎ ((nat_lt d 10 ≡ false) × (10 ≤ d))
    by_test true e = inl (e, grind arith)
    by_test false e = inr (e, grind arith)

hex_again : (d : ℕ) → d < 16 → hex_digit (digit_glyph false d) ≡ Some d
hex_again d lt = by_size (below_or_not d)
  where
    by_size : ((nat_lt d 10 ≡ true) × (d < 10)) ⊎ ((nat_lt d 10 ≡ false) × (10 ≤ d)) → hex_digit (digit_glyph false d) ≡ Some d
    by_size (inl h) = rw h.0 (hex_small d h.1)
    by_size (inr h) = rw h.0 (hex_large d h.1 lt)

escape_again : (b : ℕ) (after : List ℕ) → b < 256 → quote_at plain (escape b ++ after) ≡ onto b (quote_at plain after)
unfolding quote_at
escape_again b after lt =
    let high : b / 16 < 16 = omega arith in
    let low : b % 16 < 16 = omega arith in
    let whole : b / 16 * 16 + b % 16 ≡ b = omega arith in
    rw (hex_again (b / 16) high, hex_again (b % 16) low) (ap (λ (n : ℕ). onto n (quote_at plain after)) whole)

third : {A : Type 0} (x y z : Bool) (a b c d : A) → x ≡ false → y ≡ false → z ≡ true → cond x a (cond y b (cond z c d)) ≡ c
third x y z a b c d e f g = rw (e, f, g) refl

itself_again : (b : ℕ) (after : List ℕ) → needs_no_escape b ≡ true → quote_at plain (b ∷ after) ≡ onto b (quote_at plain after)
unfolding quote_at
itself_again b after h =
    let quote : b ≢ 34 = λ e. let z : needs_no_escape 34 ≡ true = subst (λ (x : ℕ). needs_no_escape x ≡ true) e h in cc in
    let slash : b ≢ 92 = λ e. let z : needs_no_escape 92 ≡ true = subst (λ (x : ℕ). needs_no_escape x ≡ true) e h in cc in
    third (nat_eq b 34) (nat_eq b 92) (needs_no_escape b) (Some ([], after)) _ (onto b (quote_at plain after)) None
    (ne_eqb b 34 quote) (ne_eqb b 92 slash) h

escaped_again : (b : ℕ) (after : List ℕ) → b < 256 → quote_at plain (escaped b ++ after) ≡ onto b (quote_at plain after)
escaped_again b after lt = by_test (needs_no_escape b) refl
  where
    by_test : (c : Bool) → needs_no_escape b ≡ c → quote_at plain (escaped b ++ after) ≡ onto b (quote_at plain after)
    by_test true e = rw e (itself_again b after e)
    by_test false e = rw e (escape_again b after lt)

pub quoted_again : (bytes rest : List ℕ) → AllByRecursion (λ b. b < 256) bytes → quote_at plain (quoted bytes ++ 34 ∷ rest) ≡ Some (bytes, rest)
unfolding quote_at
quoted_again [] rest h = refl
quoted_again (b ∷ bs) rest h =
    ap (quote_at plain) (append_assoc (escaped b) (quoted bs) (34 ∷ rest)) ∙ escaped_again b (quoted bs ++ 34 ∷ rest) h.0
    ∙ ap (onto b) (quoted_again bs rest h.1)
