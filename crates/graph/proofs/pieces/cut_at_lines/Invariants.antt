use Rattle.std.proofs.Common.{◌≡◌, ◌++◌}
use denote.Shadow.{shadow}
use denote.Text.{Utf8}
use Rattle.graph.specs.Said.{lines_of}
use Rattle.graph.specs.inside.Pieces.{lines_in}
use Rattle.graph.proofs.pieces.cut_at_lines.Given as goal

abbrev pub invariant-loop-turn : goal.invariant-loop-turn
invariant-loop-turn l = record { text : shadow (Utf8 l.rest); cut : lines_of l.text ≡ lines_in l.pieces.items ++ lines_of l.rest }
