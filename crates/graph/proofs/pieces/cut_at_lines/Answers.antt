use Rattle.std.proofs.Common.{rules}
use Rattle.graph.proofs.InPieces.{piece_more}
use Rattle.graph.proofs.pieces.cut_at_lines.Goals.{in-Some+in_ok-push, in_default}
use Rattle.graph.proofs.pieces.cut_at_lines.Goals as goal

pub loop-turn-preserved : goal.loop-turn-preserved
loop-turn-preserved c = elim c.match-cut_after_line.branch [
  | in-Some+in_ok-push w ↦ record {
    text = search rules;
    cut = rw (w.rest-is, w.pieces-is, w.in_ok-push.ensures.items)
        (piece_more _ c.loop-turn.pieces.items w.in-Some.piece c.loop-turn.rest.now w.in-Some.others.now c.loop-turn.invariant.cut w.in-Some.ensures);
  }
  | in_default w ↦ record { text = rw w.rest-is c.loop-turn.invariant.text; cut = rw (w.rest-is, w.pieces-is) c.loop-turn.invariant.cut }
]
