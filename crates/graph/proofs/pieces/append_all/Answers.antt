use Rattle.std.proofs.Common.{◌++◌, [], ap, ◌∙◌}
use Rattle.std.proofs.lemmas.List.{flat_map_more}
use Rattle.graph.specs.inside.Pieces.{piece_edges, piece_vertices}
use Rattle.graph.proofs.pieces.append_all.Goals as goal

pub loop-piece-preserved : goal.loop-piece-preserved
loop-piece-preserved c =
    let piece = c.in-Some.piece in
    let pieces = c.loop-piece.yielded in
    let before = c.loop-piece.invariant in (
      c.in_ok-append.ensures.vertices ∙ ap (λ vertices. vertices ++ piece.vertices.items) before.0 ∙ flat_map_more piece_vertices [] pieces piece,
      c.in_ok-append.ensures.edges ∙ ap (λ edges. edges ++ piece.edges.items) before.1 ∙ flat_map_more piece_edges [] pieces piece,
    )
