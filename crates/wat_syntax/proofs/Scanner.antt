-- One token after the other.
use Rattle.std.proofs.Common.{◌≡◌, ◌≢◌, ◌≤◌, false, ℕ, ◌+◌, ◌-◌, List, [], ◌∷◌, ◌++◌, length, take, drop, get_or, Option, Some, None, Result, Ok, Err, Bor, refl, sym, ap, subst, ◌∙◌, append_assoc, arith}
use Rattle.std.specs.Prelude.{IsSomeAnd}
use Rattle.std.specs.List.{prefix_len}
use Rattle.std.proofs.lemmas.Bool.{ne_eqb}
use Rattle.std.proofs.lemmas.List.{take_all, length-append}
use Rattle.wat_syntax.specs.declared.fault.Failure.{Failure}
use Rattle.wat_syntax.specs.declared.lexer.token.Token.{Token}
use Rattle.wat_syntax.specs.declared.lexer.token.Token.TheVariants as token
use Rattle.wat_syntax.specs.inside.Follows.{◌>>=◌, Follows}
use Rattle.wat_syntax.specs.inside.Lexing.{EndsWith, is_blank, one_at, opening_at, quoted_at, read_of, word_at, word_of}
use Rattle.wat_syntax.specs.Words.{is_word}
use Rattle.wat_syntax.specs.inside.Strings.{plain, quote_at, string_of}
use Rattle.wat_syntax.specs.inside.Tokens.{Tok, tok_of, text, text_or_other}
use Rattle.wat_syntax.proofs.Quotes.{string_is}

pub ends_behind : (source : List ℕ) (b : ℕ) (rest : List ℕ) → EndsWith source (b ∷ rest) → EndsWith source rest
ends_behind source b rest (front, e) = (front ++ b ∷ [], e ∙ sym (append_assoc front (b ∷ []) rest))

abbrev pub Read : Type 0
Read = Result (Option Token × Bor (List ℕ)) Failure

-- ---- strings

abbrev pub Behind : List ℕ → Option (Bor (List ℕ)) → Type 0
Behind inside r = (bytes rest : List ℕ) → quote_at plain inside ≡ Some (bytes, rest) → IsSomeAnd r (λ x. x.now ≡ rest)

drop_front : (front rest : List ℕ) → drop (length front) (front ++ rest) ≡ rest
drop_front [] rest = refl
drop_front (b ∷ bs) rest = drop_front bs rest

end_of : (source rest : List ℕ) (size : ℕ) → size ≡ length source → EndsWith source rest → drop (size - length rest) source ≡ rest
end_of source rest size all (front, e) =
    let whole : length source ≡ length front + length rest = ap length e ∙ length-append front rest in
    let place : size - length rest ≡ length front = omega (arith, all, whole) in
    ap (λ (n : ℕ). drop n source) place ∙ ap (λ (s : List ℕ). drop (length front) s) e ∙ drop_front front rest

pub quoted_some : (source inside : List ℕ) (size : ℕ) (rest : Bor (List ℕ)) → size ≡ length source → EndsWith source inside → Behind inside (Some rest)
    → Follows (read_of source) (Ok (Some (token.Text (size - length inside)), rest)) (quoted_at inside)
quoted_some source inside size rest all ends h = by_read (quote_at plain inside) refl
  where
    by_read : (read : Option (List ℕ × List ℕ)) → quote_at plain inside ≡ read
        → Follows (read_of source) (Ok (Some (token.Text (size - length inside)), rest)) (read >>= λ x. Some (Some (text x.0), x.1))
    by_read None f = tt
    by_read (Some x) f =
        let bytes : string_of (drop (size - length inside) source) ≡ Some x.0 = ap string_of (end_of source inside size all ends) ∙ string_is inside x.0 x.1 f in
        let same : text_or_other (string_of (drop (size - length inside) source)) ≡ text x.0 = ap text_or_other bytes in
        ap (λ (t : Tok). (Some t, rest.now)) same ∙ ap (λ (r : List ℕ). (Some (text x.0), r)) (h x.0 x.1 f)

pub quoted_none : (source inside : List ℕ) (d : Failure) → Behind inside None → Follows (read_of source) (Err d) (quoted_at inside)
quoted_none source inside d h = by_read (quote_at plain inside) refl
  where
    by_read : (read : Option (List ℕ × List ℕ)) → quote_at plain inside ≡ read → Follows (read_of source) (Err d) (read >>= λ x. Some (Some (text x.0), x.1))
    by_read None f = tt
    by_read (Some x) f = absurd (h x.0 x.1 f)

-- ---- words

pub word_none : (source bs first : List ℕ) (d : Failure) → first ≡ take (prefix_len is_word bs) bs → length first ≡ 0 → Follows (read_of source) (Err d) (word_at bs)
unfolding word_at word_of
word_none source bs [] d e none = rw (sym e) tt
word_none source bs (b ∷ more) d e none = absurd (omega arith)

pub word_read : (source bs first : List ℕ) (t : Token) (rest : Bor (List ℕ)) → first ≡ take (prefix_len is_word bs) bs → rest.now ≡ drop (prefix_len is_word bs) bs
    → Follows (tok_of source) (Ok t) (word_of first) → Follows (read_of source) (Ok (Some t, rest)) (word_at bs)
unfolding word_at
word_read source bs first t rest e f h = rw (sym e, sym f) (by_word (word_of first) h)
  where
    by_word : (o : Option Tok) → Follows (tok_of source) (Ok t) o → Follows (read_of source) (Ok (Some t, rest)) (o >>= λ x. Some (Some x, rest.now))
    by_word None g = tt
    by_word (Some x) g = ap (λ (y : Tok). (Some y, rest.now)) g

pub word_fails : (source bs first : List ℕ) (d : Failure) → first ≡ take (prefix_len is_word bs) bs
    → Follows (tok_of source) (Err d) (word_of first) → Follows (read_of source) (Err d) (word_at bs)
unfolding word_at
word_fails source bs first d e h = rw (sym e) (by_word (word_of first) h)
  where
    by_word : (o : Option Tok) → Follows (tok_of source) (Err d) o → Follows (read_of source) (Err d) (o >>= λ x. Some (Some x, drop (prefix_len is_word bs) bs))
    by_word None g = tt
    by_word (Some x) g = g

-- ---- by the first byte

abbrev pub tail_of : List ℕ → List ℕ
tail_of bs = take (length bs - 1) (drop 1 bs)

tail_is : (b : ℕ) (bs : List ℕ) → tail_of (b ∷ bs) ≡ bs
tail_is b bs = take_all (length (b ∷ bs) - 1) bs (omega arith)

pub one_opening : (source bs : List ℕ) (r : Read) → 1 ≤ length bs → get_or bs 0 0 ≡ 40 → Follows (read_of source) r (opening_at (tail_of bs)) → Follows (read_of source) r (one_at bs)
unfolding one_at
one_opening source [] r some is h = absurd (omega arith)
one_opening source (b ∷ bs) r some is h = rw is (subst (λ (t : List ℕ). Follows (read_of source) r (opening_at t)) (tail_is b bs) h)

pub one_quoted : (source bs : List ℕ) (r : Read) → 1 ≤ length bs → get_or bs 0 0 ≡ 34 → EndsWith source bs
    → (EndsWith source (tail_of bs) → Follows (read_of source) r (quoted_at (tail_of bs))) → Follows (read_of source) r (one_at bs)
unfolding one_at
one_quoted source [] r some is ends h = absurd (omega arith)
one_quoted source (b ∷ bs) r some is ends h =
    rw is (subst (λ (t : List ℕ). (EndsWith source t → Follows (read_of source) r (quoted_at t))) (tail_is b bs) h (ends_behind source b bs ends))

-- a byte with which neither a blank nor a parenthesis, a comment or a string begins
pub record IsOther (b : ℕ) : Type 0 where
  pub blank : is_blank b ≡ false
  pub closing : b ≢ 41
  pub opening : b ≢ 40
  pub semicolon : b ≢ 59
  pub quote : b ≢ 34

pub one_at-other : (b : ℕ) (bs : List ℕ) → IsOther b → one_at (b ∷ bs) ≡ word_at (b ∷ bs)
unfolding one_at
one_at-other b bs other =
    rw (
      other.blank,
      ne_eqb b 41 other.closing,
      ne_eqb b 40 other.opening,
      ne_eqb b 59 other.semicolon,
      ne_eqb b 34 other.quote,
    ) refl

pub one_word : (source bs : List ℕ) (r : Read) → 1 ≤ length bs → IsOther (get_or bs 0 0) → Follows (read_of source) r (word_at bs) → Follows (read_of source) r (one_at bs)
one_word source [] r some is h = absurd (omega arith)
one_word source (b ∷ bs) r some other h = rw (one_at-other b bs other) h
