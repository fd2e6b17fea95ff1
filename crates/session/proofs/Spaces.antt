-- The first word of a line, and the others.
use Rattle.std.proofs.Common.{◌≡◌, ◌≢◌, ℕ, ◌<◌, Bool, true, false, cond, eqb, List, [], ◌∷◌, ◌++◌, length, refl, ap, ◌∙◌, arith, get_or, lit<}
use Rattle.std.specs.Prelude.{Option, Some, None}
use Rattle.std.specs.Borrow.{Bor}
use Rattle.std.proofs.lemmas.Str.Pattern.{IsSplitOnceResult, split_parts}
use Rattle.std.specs.Prelude.{filter}
use Rattle.std.specs.List.{All, slice_split}
use Rattle.std.proofs.lemmas.List.Elements.{All-from_get_or}
use Rattle.std.proofs.lemmas.List.Splits.{slice_split_at, slice_split_none}
use Rattle.std.proofs.lemmas.Bool.{ne_eqb}
use Rattle.line_text.specs.Fields.{is_filled}
use Rattle.session.specs.Words.{words_of}

abbrev is_space : ℕ → Bool
is_space byte = eqb byte 32

filled : (word : List ℕ) → 0 < length word → is_filled word ≡ true
filled [] some = absurd (omega arith)
filled (byte ∷ word) some = refl

all_other : (word : List ℕ) → ((i : ℕ) → i < length word → get_or word i 0 ≢ 32) → All (λ byte. is_space byte ≡ false) word
all_other word other = All-from_get_or (λ byte. is_space byte ≡ false) word 0 (λ i within. ne_eqb _ _ (other i within))

parts : (line word others : List ℕ) → line ≡ word ++ 32 ∷ others → ((i : ℕ) → i < length word → get_or word i 0 ≢ 32)
    → slice_split is_space line ≡ word ∷ slice_split is_space others
parts line word others is_line other = ap (slice_split is_space) is_line ∙ slice_split_at is_space word 32 others (all_other word other) refl

-- a word and a space
pub word_first : (line word others : List ℕ) → line ≡ word ++ 32 ∷ others → ((i : ℕ) → i < length word → get_or word i 0 ≢ 32) → 0 < length word
    → words_of line ≡ word ∷ words_of others
word_first line word others is_line other some =
    ap (filter is_filled) (parts line word others is_line other)
    ∙ ap (λ b. cond b (word ∷ words_of others) (words_of others)) (filled word some)

-- a space
pub space_first : (line word others : List ℕ) → line ≡ word ++ 32 ∷ others → length word ≡ 0 → words_of line ≡ words_of others
space_first line [] others is_line empty = ap (filter is_filled) (parts line [] others is_line (λ i within. absurd (omega arith)))
space_first line (byte ∷ word) others is_line empty = absurd (omega arith)

-- no space
pub one_word : (line : List ℕ) → ((i : ℕ) → i < length line → get_or line i 0 ≢ 32) → 0 < length line → words_of line ≡ line ∷ []
one_word line other some =
    ap (filter is_filled) (slice_split_none is_space line (all_other line other))
    ∙ ap (λ b. cond b (line ∷ []) []) (filled line some)

pub no_word : (line : List ℕ) → length line ≡ 0 → words_of line ≡ []
no_word [] empty = refl
no_word (byte ∷ line) empty = absurd (omega arith)

-- ---- where a line is cut at its first space

-- it is cut
pub split_some : (line : List ℕ) (r : Option (Bor (List ℕ) × Bor (List ℕ))) (cut : Bor (List ℕ) × Bor (List ℕ)) → IsSplitOnceResult 32 line r → r ≡ Some cut
    → (line ≡ cut.0.now ++ 32 ∷ cut.1.now) × ((i : ℕ) → i < length cut.0.now → get_or cut.0.now i 0 ≢ 32)
split_some line r cut is e = let parts = split_parts 32 line r is (lit< tt) in rw e at parts

-- it has no space
pub split_none : (line : List ℕ) (r : Option (Bor (List ℕ) × Bor (List ℕ))) → IsSplitOnceResult 32 line r → r ≡ None
    → (i : ℕ) → i < length line → get_or line i 0 ≢ 32
split_none line r is e = let parts = split_parts 32 line r is (lit< tt) in rw e at parts
