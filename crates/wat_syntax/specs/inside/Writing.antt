-- The contracts of the printer's functions.
use Rattle.std.specs.Prelude.{◌≡◌, ℕ, false, List, ◌++◌, string_bytes}
use Rattle.line_text.specs.declared.text_builder.TextBuilder.{TextBuilder}
use Rattle.wat_syntax.specs.Pieces.{Piece, text}

-- the text `new` is `old` and then these pieces, whatever follows
abbrev pub Adds : (old new : List ℕ) → (List Piece → List Piece) → Type 0
Adds old new pieces = (more : List Piece) → new ++ text more ≡ old ++ text (pieces more)

-- these pieces were put behind a text, unless it is cut
abbrev pub Writes : (old new : TextBuilder) → (List Piece → List Piece) → Type 0
Writes old new pieces =
    new.is_cut ≡ false → (old.is_cut ≡ false) × Adds (string_bytes old.text) (string_bytes new.text) pieces
