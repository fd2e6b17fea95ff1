-- The meaning of the tokens of a text (Core 1.0, 6.3), as far as printed texts have them.
use Rattle.std.specs.Prelude.{◌≡◌, ℕ, ℤ, pos, negsuc, ◌<◌, ◌^◌, ⊤, List, [], ◌∷◌, ◌++◌, map, drop, Option, Some, None}
use Rattle.std.specs.List.{AllByRecursion}
use Rattle.wat_syntax.specs.declared.keyword.Keyword.{Keyword}
use Rattle.wat_syntax.specs.declared.pieces.Gap.TheVariants as gap
use Rattle.wat_syntax.specs.declared.lexer.token.Token.{Token}
use Rattle.wat_syntax.specs.declared.lexer.token.Token.TheVariants as token
use Rattle.wat_syntax.specs.Pieces.{Piece}
use Rattle.wat_syntax.specs.Pieces as piece
use Rattle.wat_syntax.specs.inside.Strings.{string_of}

pub data Tok : Type 0 where
  opens : Tok
  closes : Tok
  key : Keyword → Tok
  -- a number without a sign, and one with a minus
  number : ℕ → Tok
  signed : ℤ → Tok
  offset_is : ℕ → Tok
  align_is : ℕ → Tok
  -- a string of these bytes
  text : List ℕ → Tok
  -- a token that no printed text has
  other : Tok

abbrev pub text_or_other : Option (List ℕ) → Tok
text_or_other (Some bytes) = text bytes
text_or_other None = other

-- a token of this text; a string is at its position in the text
abbrev pub tok_of : List ℕ → Token → Tok
tok_of source token.Open = opens
tok_of source token.Close = closes
tok_of source (token.Key k) = key k
tok_of source (token.Number n) = number n
tok_of source (token.Signed z) = signed z
tok_of source (token.Offset n) = offset_is n
tok_of source (token.Align n) = align_is n
tok_of source (token.Text place) = text_or_other (string_of (drop place source))
tok_of source (token.Name n) = other
tok_of source token.OutOfRange = other
tok_of source token.Unsupported = other
tok_of source token.Other = other

abbrev pub toks_of : List ℕ → List Token → List Tok
toks_of source ts = map (tok_of source) ts

-- ---- the tokens of a printed text

abbrev pub number_of : ℤ → Tok
number_of (pos n) = number n
number_of (negsuc n) = signed (negsuc n)

abbrev pub onto_sorted : Piece → List Tok → List Tok
onto_sorted (piece.opens g k) ts = opens ∷ key k ∷ ts
onto_sorted (piece.says g k) ts = key k ∷ ts
onto_sorted (piece.counts n) ts = number n ∷ ts
onto_sorted (piece.signs z) ts = number_of z ∷ ts
onto_sorted (piece.offset_is n) ts = offset_is n ∷ ts
onto_sorted (piece.align_is n) ts = align_is n ∷ ts
onto_sorted (piece.quotes bytes) ts = text bytes ∷ ts
onto_sorted piece.closes ts = closes ∷ ts
onto_sorted (piece.closes_line level) ts = closes ∷ ts

abbrev pub sorted : List Piece → List Tok
sorted [] = []
sorted (p ∷ ps) = onto_sorted p (sorted ps)

-- ---- pieces that a text can spell

abbrev pub IsSignedHeld : ℤ → Type 0
IsSignedHeld (pos n) = n < 2 ^ 63
IsSignedHeld (negsuc n) = n < 2 ^ 63

-- each number fits its token, each byte is below 256, and each word has a blank before it
abbrev pub IsPieceHeld : Piece → Type 0
IsPieceHeld (piece.opens g k) = ⊤
IsPieceHeld (piece.says gap.Nothing k) = ⊥
IsPieceHeld (piece.says _ k) = ⊤
IsPieceHeld (piece.counts n) = n < 2 ^ 32
IsPieceHeld (piece.signs z) = IsSignedHeld z
IsPieceHeld (piece.offset_is n) = n < 2 ^ 32
IsPieceHeld (piece.align_is n) = n < 2 ^ 32
IsPieceHeld (piece.quotes bytes) = AllByRecursion (λ b. b < 256) bytes
IsPieceHeld piece.closes = ⊤
IsPieceHeld (piece.closes_line level) = ⊤

abbrev pub ArePiecesHeld : List Piece → Type 0
ArePiecesHeld ps = AllByRecursion IsPieceHeld ps

-- the text is these pieces, and the end of the last line
abbrev pub IsPrinted : List ℕ → List Piece → Type 0
IsPrinted source ps = source ≡ piece.text ps ++ 10 ∷ []
