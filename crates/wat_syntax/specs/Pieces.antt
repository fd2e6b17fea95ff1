-- A printed text as pieces, each a token with the blanks before it. Each part takes the pieces after it as an argument,
-- so that no list is regrouped.
use Rattle.std.specs.Prelude.{ℕ, ℤ, List, [], ◌∷◌, ◌++◌, codes, replicate, ◌*◌}
use Rattle.std.specs.Fmt.{decimal, signed_decimal}
use Rattle.wat_syntax.specs.declared.pieces.Gap.{Gap}
use Rattle.wat_syntax.specs.declared.pieces.Gap.TheVariants as gap
use Rattle.wat_syntax.specs.declared.keyword.Keyword.{Keyword}
use Rattle.wat_syntax.specs.Keywords.{keyword_text}
use Rattle.wat_syntax.specs.Quoted.{quoted}

pub data Piece : Type 0 where
  -- a parenthesis and a keyword
  opens : Gap → Keyword → Piece
  says : Gap → Keyword → Piece
  counts : ℕ → Piece
  signs : ℤ → Piece
  -- `offset=N` and `align=N`
  offset_is : ℕ → Piece
  align_is : ℕ → Piece
  -- a string of these bytes
  quotes : List ℕ → Piece
  closes : Piece
  -- a closing parenthesis on a line of its own, indented by this many levels
  closes_line : ℕ → Piece

-- two blanks for each level
abbrev pub indent : ℕ → List ℕ
indent level = replicate (2 * level) 32

abbrev pub gap_text : Gap → List ℕ
gap_text gap.Nothing = []
gap_text gap.Space = 32 ∷ []
gap_text (gap.Line level) = 10 ∷ indent level

abbrev pub piece_text : Piece → List ℕ
piece_text (opens g k) = gap_text g ++ 40 ∷ keyword_text k
piece_text (says g k) = gap_text g ++ keyword_text k
piece_text (counts n) = 32 ∷ decimal n
piece_text (signs z) = 32 ∷ signed_decimal z
piece_text (offset_is n) = codes " offset=" ++ decimal n
piece_text (align_is n) = codes " align=" ++ decimal n
piece_text (quotes bytes) = 32 ∷ 34 ∷ (quoted bytes ++ 34 ∷ [])
piece_text closes = 41 ∷ []
piece_text (closes_line level) = 10 ∷ (indent level ++ 41 ∷ [])

unfoldable pub text : List Piece → List ℕ
text [] = []
text (p ∷ ps) = piece_text p ++ text ps

-- the pieces of each item in turn
abbrev pub each : {A : Type 0} → (A → List Piece → List Piece) → List A → List Piece → List Piece
each one [] more = more
each one (x ∷ xs) more = one x (each one xs more)
