use Rattle.std.proofs.Common.{length, List}
use Rattle.wat_syntax.specs.inside.Lexing.{IsLeft}
use Rattle.wat_syntax.specs.Numbering.{AreApart, AreNumbered}
use Rattle.wat_syntax.specs.Pieces.{Piece}
use Rattle.wat_syntax.specs.inside.Tokens.{ArePiecesHeld, IsPrinted, sorted, toks_of}
use Rattle.wat_syntax.proofs.Lexes.{Continues}
use Rattle.wat_syntax.proofs.lexer.lex.Given as goal

abbrev pub invariant-each : goal.invariant-each
invariant-each l = record {
  left : IsLeft l.source l.rest;
  so_far : (ps : List Piece) → ArePiecesHeld ps → IsPrinted l.source ps → Continues l.source (toks_of l.source l.tokens.items) l.rest (sorted ps);
  apart : AreApart l.names;
  numbered : AreNumbered l.source l.names l.tokens.items l.places.items;
}

abbrev pub decreases-each : goal.decreases-each
decreases-each l = length l.rest
