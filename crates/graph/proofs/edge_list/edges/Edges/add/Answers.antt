use Rattle.std.proofs.Common.{w64}
use Rattle.std.proofs.lemmas.Int.{to_z-of_z}
use Rattle.graph.proofs.Both.{adds_both}
use Rattle.graph.proofs.edge_list.edges.Edges.add.Goals as goal

pub returns : goal.returns
returns c =
    adds_both c.push-2.result c.args.edge _ _ _ c.if-not-self.false c.if-edge.false c.in_ok-push.ensures
    (rw (to_z-of_z w64 c.args.edge.value c.requires.value) at c.push-2.ensures)
