use Rattle.graph.proofs.InPieces.{says_if_whole}
use Rattle.graph.proofs.pieces.collect_pieces.Goals as goal

pub returns : goal.returns
returns g c =
    says_if_whole c.args.text.now c.in-Ok.pieces.items c.in-Ok-collect_each.collected.items c.together.result c.in-Ok.ensures
    (rw c.deref.ensures.value at c.in-Ok-collect_each.ensures) c.together.ensures
