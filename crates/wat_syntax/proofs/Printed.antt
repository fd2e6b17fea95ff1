-- The tokens of a printed text, among which no name stands.
use Rattle.std.proofs.Common.{◌≡◌, ℕ, ℤ, pos, negsuc, Bool, true, false, List, [], ◌∷◌, drop, Option, Some, None, refl, ap, ◌∙◌}
use Rattle.wat_syntax.specs.declared.lexer.token.Token.{Token}
use Rattle.wat_syntax.specs.declared.lexer.token.Token.TheVariants as token
use Rattle.wat_syntax.specs.Pieces.{Piece}
use Rattle.wat_syntax.specs.Pieces as piece
use Rattle.wat_syntax.specs.inside.Strings.{string_of}
use Rattle.wat_syntax.specs.inside.Tokens.{Tok, number_of, other, sorted, text_or_other, toks_of}
use Rattle.wat_syntax.specs.inside.ReadingModule.{nameless}

-- each token means something
abbrev are_known : List Tok → Bool
are_known [] = true
are_known (other ∷ ts) = false
are_known (t ∷ ts) = are_known ts

signs_known : (z : ℤ) (ts : List Tok) → are_known ts ≡ true → are_known (number_of z ∷ ts) ≡ true
signs_known (pos n) ts e = e
signs_known (negsuc n) ts e = e

sorted_known : (ps : List Piece) → are_known (sorted ps) ≡ true
sorted_known [] = refl
sorted_known (piece.opens g k ∷ ps) = sorted_known ps
sorted_known (piece.says g k ∷ ps) = sorted_known ps
sorted_known (piece.counts n ∷ ps) = sorted_known ps
sorted_known (piece.signs z ∷ ps) = signs_known z (sorted ps) (sorted_known ps)
sorted_known (piece.offset_is n ∷ ps) = sorted_known ps
sorted_known (piece.align_is n ∷ ps) = sorted_known ps
sorted_known (piece.quotes bytes ∷ ps) = sorted_known ps
sorted_known (piece.closes ∷ ps) = sorted_known ps
sorted_known (piece.closes_line level ∷ ps) = sorted_known ps

text_known : (o : Option (List ℕ)) (ts : List Tok) → are_known (text_or_other o ∷ ts) ≡ true → are_known ts ≡ true
text_known None ts e = absurd cc
text_known (Some bytes) ts e = e

known_nameless : (source : List ℕ) (ts : List Token) → are_known (toks_of source ts) ≡ true → nameless ts ≡ true
known_nameless source [] e = refl
known_nameless source (token.Open ∷ ts) e = known_nameless source ts e
known_nameless source (token.Close ∷ ts) e = known_nameless source ts e
known_nameless source (token.Key k ∷ ts) e = known_nameless source ts e
known_nameless source (token.Number n ∷ ts) e = known_nameless source ts e
known_nameless source (token.Signed z ∷ ts) e = known_nameless source ts e
known_nameless source (token.Offset n ∷ ts) e = known_nameless source ts e
known_nameless source (token.Align n ∷ ts) e = known_nameless source ts e
known_nameless source (token.Text place ∷ ts) e = known_nameless source ts (text_known (string_of (drop place source)) (toks_of source ts) e)
known_nameless source (token.Name n ∷ ts) e = absurd cc
known_nameless source (token.OutOfRange ∷ ts) e = absurd cc
known_nameless source (token.Unsupported ∷ ts) e = absurd cc
known_nameless source (token.Other ∷ ts) e = absurd cc

pub printed_nameless : (source : List ℕ) (ts : List Token) (ps : List Piece) → toks_of source ts ≡ sorted ps → nameless ts ≡ true
printed_nameless source ts ps e = known_nameless source ts (ap are_known e ∙ sorted_known ps)
