use Rattle.std.proofs.Common.{◌≡◌, ◌++◌, false, List, drop, string_bytes}
use Rattle.wat_syntax.specs.Pieces.{Piece, text, each}
use Rattle.wat_syntax.proofs.pieces.write_each.Given as goal

abbrev pub invariant-loop-part : goal.invariant-loop-part
invariant-loop-part g l =
    l.text.is_cut ≡ false → (l.fn.text.is_cut ≡ false)
    × ((more : List Piece) → string_bytes l.text.text ++ text (each g.P.Part.pieces (drop l.part-index l.parts) more) ≡ string_bytes l.fn.text.text ++ text (each g.P.Part.pieces l.parts more))
