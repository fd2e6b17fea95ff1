-- What a line asks for, by its words.
use Rattle.std.proofs.Common.{inl, inr, ◌≡◌, ◌∙◌, ℕ, ◌<◌, ◌≤◌, false, cond, List, length, ap, sym}
use Rattle.std.specs.Str.{IsUtf8, is_utf8}
use Rattle.std.proofs.lemmas.Bool.{cases_Bool, le-ltb, lt-ltb}
use Rattle.std.proofs.lemmas.Str.{IsUtf8-from_is_utf8, is_utf8-from_IsUtf8}
use Rattle.session.specs.Words.{words_of}
use Rattle.session.specs.Commands.{asked_by, asked_by_text, asked_of, unknown}

not_utf8 : (text : List ℕ) → ¬ (IsUtf8 text) → is_utf8 text ≡ false
not_utf8 text other = elim (cases_Bool (is_utf8 text)) [
  | inl good ↦ absurd (other (IsUtf8-from_is_utf8 text good))
  | inr bad ↦ bad
]

-- a line that is too long
pub asked_long : (line : List ℕ) → 4096 < length line → unknown ≡ asked_of line
asked_long line long = sym (ap (λ b. cond b unknown (asked_by_text line)) (lt-ltb _ _ long))

short_line : (line : List ℕ) → length line ≤ 4096 → asked_of line ≡ asked_by_text line
short_line line short = ap (λ b. cond b unknown (asked_by_text line)) (le-ltb _ _ short)

-- one that is not, and is text
pub asked_read : (line : List ℕ) → length line ≤ 4096 → IsUtf8 line → asked_by (words_of line) ≡ asked_of line
asked_read line short utf8 = sym (short_line line short ∙ ap (λ b. cond b (asked_by (words_of line)) unknown) (is_utf8-from_IsUtf8 line utf8))

-- and one that is none
pub asked_other : (line : List ℕ) → length line ≤ 4096 → ¬ (IsUtf8 line) → unknown ≡ asked_of line
asked_other line short other = sym (short_line line short ∙ ap (λ b. cond b (asked_by (words_of line)) unknown) (not_utf8 line other))
