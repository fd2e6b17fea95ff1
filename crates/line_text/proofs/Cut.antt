-- The first field of a line, and the others.
use Rattle.std.proofs.Common.{inl, inr, ◌≡◌, ℕ, ◌+◌, ◌<◌, ◌≤◌, true, false, not, cond, List, [], ◌∷◌, length, take, drop, refl, ap, sym, ◌∙◌, arith, add-one, get_or}
use Rattle.std.specs.Prelude.{filter}
use Rattle.std.specs.List.{slice_split, onto_first, position_or_len}
use Rattle.std.proofs.lemmas.Bool.{cases_Bool}
use Rattle.std.proofs.lemmas.List.Splits.{slice_split-cons_yes, slice_split-cons_no}
use Rattle.line_text.specs.Fields.{is_blank, is_filled, fields}

-- a line is cut at its first blank
pub record IsCut (line : List ℕ) : Type 0 where
  pub parts : List (List ℕ)
  pub split : slice_split is_blank line ≡ take (position_or_len is_blank line) line ∷ parts
  pub others : filter is_filled parts ≡ fields (drop (position_or_len is_blank line) line)

position-blank : (byte : ℕ) (line : List ℕ) → is_blank byte ≡ true → position_or_len is_blank (byte ∷ line) ≡ 0
position-blank byte line blank = ap (λ b. cond (not b) (1 + position_or_len is_blank line) 0) blank

position-other : (byte : ℕ) (line : List ℕ) → is_blank byte ≡ false → position_or_len is_blank (byte ∷ line) ≡ position_or_len is_blank line + 1
position-other byte line other = ap (λ b. cond (not b) (1 + position_or_len is_blank line) 0) other ∙ omega arith

cut_blank : (byte : ℕ) (line : List ℕ) → is_blank byte ≡ true → IsCut (byte ∷ line)
cut_blank byte line blank = record {
  parts = slice_split is_blank line;
  split = rw (position-blank byte line blank) (slice_split-cons_yes is_blank byte line blank);
  others = rw (position-blank byte line blank) (ap (λ parts. filter is_filled parts) (sym (slice_split-cons_yes is_blank byte line blank)));
}

cut_other : (byte : ℕ) (line : List ℕ) → is_blank byte ≡ false → IsCut line → IsCut (byte ∷ line)
cut_other byte line other cut = record {
  parts = cut.parts;
  split = rw (position-other byte line other, add-one) (slice_split-cons_no is_blank byte line other ∙ ap (λ parts. onto_first byte parts) cut.split);
  others = rw (position-other byte line other, add-one) cut.others;
}

pub cut : (line : List ℕ) → IsCut line
cut [] = record { parts = []; split = refl; others = refl }
cut (byte ∷ line) = elim (cases_Bool (is_blank byte)) [
  | inl blank ↦ cut_blank byte line blank
  | inr other ↦ cut_other byte line other (cut line)
]

fields-cut : (line : List ℕ) → 0 < length line → is_blank (get_or line 0 0) ≡ false
    → fields line ≡ take (position_or_len is_blank line) line ∷ fields (drop (position_or_len is_blank line) line)
fields-cut [] some other = absurd (omega arith)
fields-cut (byte ∷ line) some other =
    let parts = cut (byte ∷ line) in
    let first : is_filled (take (position_or_len is_blank (byte ∷ line)) (byte ∷ line)) ≡ true = rw (position-other byte line other, add-one) in
    ap (λ xs. filter is_filled xs) parts.split
    ∙ ap (λ b. cond b (take (position_or_len is_blank (byte ∷ line)) (byte ∷ line) ∷ filter is_filled parts.parts) (filter is_filled parts.parts)) first
    ∙ ap (λ xs. take (position_or_len is_blank (byte ∷ line)) (byte ∷ line) ∷ xs) parts.others

pub position-le-length : (line : List ℕ) → position_or_len is_blank line ≤ length line
position-le-length [] = omega arith
position-le-length (byte ∷ line) = elim (cases_Bool (is_blank byte)) [
  | inl blank ↦ rw (position-blank byte line blank) (omega arith)
  | inr other ↦ let below = position-le-length line in rw (position-other byte line other) (omega arith)
]

-- a line that does not begin with a blank begins with its first field, and the others follow
pub fields-first : (line : List ℕ) (place : ℕ) (first others : List ℕ) → 0 < length line → is_blank (get_or line 0 0) ≡ false
    → place ≡ position_or_len is_blank line → first ≡ take place line → others ≡ drop place line → fields line ≡ first ∷ fields others
fields-first line place first others some other e f g = rw (f, g, e) (fields-cut line some other)
