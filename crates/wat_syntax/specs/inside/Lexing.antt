-- How a text is cut into tokens (Core 1.0, 6.3), as far as printed texts need it: numbers are decimal, and there are no
-- comments and no names. None claims nothing about other texts.
use Rattle.std.specs.Prelude.{◌≡◌, ◌≤◌, ◌-◌, ℕ, zero, suc, pos, negsuc, ◌^◌, Bool, false, ◌&&◌, ◌||◌, not, nat_lt, nat_le, ◌==◌, List, [], ◌∷◌, ◌++◌, length, take, drop, codes, Option, Some, None, option_map, if◌then◌else◌}
use Rattle.std.specs.Borrow.{Bor}
use Rattle.std.specs.List.{prefix_len}
use Rattle.std.specs.Str.{all_ascii_digits}
use Rattle.std.specs.Str.Parse.{digits_value}
use Rattle.wat_syntax.specs.declared.keyword.Keyword.{Keyword}
use Rattle.wat_syntax.specs.declared.keyword.TheConstants.{KEYWORDS}
use Rattle.wat_syntax.specs.declared.lexer.token.Token.{Token}
use Rattle.wat_syntax.specs.inside.Follows.{◌>>=◌}
use Rattle.wat_syntax.specs.Keywords.{lookup}
use Rattle.wat_syntax.specs.Words.{first_word, is_word}
use Rattle.wat_syntax.specs.inside.Strings.{plain, quote_at}
use Rattle.wat_syntax.specs.inside.Tokens.{Tok, opens, closes, key, number, signed, offset_is, align_is, text, tok_of}

-- ---- numbers

abbrev pub is_digit : ℕ → Bool
is_digit b = nat_le 48 b && nat_le b 57

abbrev pub begins_with_digit : List ℕ → Bool
begins_with_digit [] = false
begins_with_digit (b ∷ bs) = is_digit b

-- decimal digits that spell a number below 2^64
unfoldable pub numeral_of : List ℕ → Option ℕ
numeral_of word =
    if nat_lt 0 (length word) && all_ascii_digits word && nat_lt (digits_value 10 word) (2 ^ 64)
    then Some (digits_value 10 word) else None

abbrev pub as_number : Option ℕ → Option Tok
as_number None = None
as_number (Some n) = Some (number n)

abbrev pub as_positive : Option ℕ → Option Tok
as_positive None = None
as_positive (Some n) = if nat_lt n (2 ^ 63) then Some (signed (pos n)) else None

abbrev pub as_negative : Option ℕ → Option Tok
as_negative None = None
as_negative (Some zero) = None
as_negative (Some (suc n)) = if nat_lt n (2 ^ 63) then Some (signed (negsuc n)) else None

abbrev pub as_offset : Option ℕ → Option Tok
as_offset None = None
as_offset (Some n) = if nat_lt n (2 ^ 32) then Some (offset_is n) else None

abbrev pub as_align : Option ℕ → Option Tok
as_align None = None
as_align (Some n) = if nat_lt n (2 ^ 32) then Some (align_is n) else None

-- ---- words

abbrev pub as_key : Option Keyword → Option Tok
as_key None = None
as_key (Some k) = Some (key k)

-- the rest of the second list after the first, where it starts with the first
abbrev pub behind : List ℕ → List ℕ → Option (List ℕ)
behind [] word = Some word
behind (p ∷ ps) [] = None
behind (p ∷ ps) (b ∷ bs) = if p == b then behind ps bs else None

abbrev pub or_key : List ℕ → Option (List ℕ) → Option Tok
or_key word None = as_key (lookup KEYWORDS word)
or_key word (Some digits) = as_align (numeral_of digits)

abbrev pub or_align : List ℕ → Option (List ℕ) → Option Tok
or_align word None = or_key word (behind (codes "align=") word)
or_align word (Some digits) = as_offset (numeral_of digits)

unfoldable pub plain_of : List ℕ → Option Tok
plain_of word = or_align word (behind (codes "offset=") word)

unfoldable pub word_of : List ℕ → Option Tok
word_of [] = None
word_of (b ∷ bs) =
    if is_digit b then as_number (numeral_of (b ∷ bs))
    else (if b == 45 then as_negative (numeral_of bs)
    else (if b == 43 then as_positive (numeral_of bs)
    else (if b == 36 then None
    else plain_of (b ∷ bs))))

-- ---- tokens

abbrev pub begins_comment : List ℕ → Bool
begins_comment [] = false
begins_comment (b ∷ bs) = b == 59

unfoldable pub word_at : List ℕ → Option (Option Tok × List ℕ)
word_at bs = word_of (first_word bs) >>= λ t. Some (Some t, drop (prefix_len is_word bs) bs)

-- what follows a parenthesis
abbrev pub opening_at : List ℕ → Option (Option Tok × List ℕ)
opening_at bs = if begins_comment bs then None else Some (Some opens, bs)

-- what follows a quotation mark
abbrev pub quoted_at : List ℕ → Option (Option Tok × List ℕ)
quoted_at bs = quote_at plain bs >>= λ x. Some (Some (text x.0), x.1)

-- a space, a tab or the end of a line
abbrev pub is_blank : ℕ → Bool
is_blank b = (b == 32) || (b == 10) || (b == 9) || (b == 13)

-- one blank or one token, and the text after it
unfoldable pub one_at : List ℕ → Option (Option Tok × List ℕ)
one_at [] = None
one_at (b ∷ bs) =
    if is_blank b then Some (None, bs)
    else (if b == 41 then Some (Some closes, bs)
    else (if b == 40 then opening_at bs
    else (if b == 59 then None
    else (if b == 34 then quoted_at bs
    else word_at (b ∷ bs)))))

abbrev pub listed : Option Tok → List Tok → List Tok
listed None ts = ts
listed (Some t) ts = t ∷ ts

-- all tokens of a text with at most this many blanks and tokens
unfoldable pub tokens_at : ℕ → List ℕ → Option (List Tok)
tokens_at n [] = Some []
tokens_at zero (b ∷ bs) = None
tokens_at (suc n) (b ∷ bs) = do
  one ← one_at (b ∷ bs)
  others ← tokens_at n one.1
  Some (listed one.0 others)

-- ---- the results of functions

-- the token means this, whatever the text is; None claims nothing
abbrev pub Means : Token → Option Tok → Type 0
Means t None = Unit {0}
Means t (Some x) = (source : List ℕ) → tok_of source t ≡ x

-- the second is the end of the first
abbrev pub EndsWith : List ℕ → List ℕ → Type 0
EndsWith source rest = (front : List ℕ) × (source ≡ front ++ rest)

-- the second is the first without some bytes at its start
pub record IsLeft (text rest : List ℕ) : Type 0 where
  pub within : length rest ≤ length text
  pub behind_some : rest ≡ drop (length text - length rest) text

-- what a function read, as one blank or token of this text and the text after it
abbrev pub read_of : List ℕ → Option Token × Bor (List ℕ) → Option Tok × List ℕ
read_of source x = (option_map (tok_of source) x.0, x.1.now)
