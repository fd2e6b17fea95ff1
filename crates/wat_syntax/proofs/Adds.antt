-- The text of pieces that are put behind a text, with none after them.
use Rattle.std.proofs.Common.{List, [], sym, ◌∙◌}
use Rattle.std.proofs.lemmas.List.{append-nil}
use Rattle.line_text.specs.declared.text_builder.TextBuilder.{TextBuilder}
use Rattle.line_text.specs.TextBuilder.{Gains}
use Rattle.wat_syntax.specs.Pieces.{Piece, text}
use Rattle.wat_syntax.specs.inside.Writing.{Writes}

pub gains_all : (old new : TextBuilder) (pieces : List Piece → List Piece) → Writes old new pieces → Gains old new (text (pieces []))
unfolding text
gains_all old new pieces h whole = let written = h whole in (written.0, sym (append-nil _) ∙ written.1 [])
