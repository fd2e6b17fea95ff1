use Rattle.std.proofs.Common.{◌≡◌, ◌≤◌, ◌*◌, ◌^◌, sum_by, take, vec_len}
use Rattle.graph.proofs.pieces.vertex_count.Given as goal

abbrev pub invariant-loop-piece : goal.invariant-loop-piece
invariant-loop-piece l = record {
  sum : l.count ≡ sum_by (λ piece. vec_len piece.vertices) (take l.piece-index l.pieces);
  small : l.count ≤ l.piece-index * 2 ^ 64;
}
