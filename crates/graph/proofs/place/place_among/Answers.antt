use Rattle.std.proofs.Common.{ℕ, List, ap, arith, length, subst, sym}
use Rattle.std.specs.List.Sorted.{IsStrictlyIncreasing}
use Rattle.graph.specs.Entry.{entries_of}
use Rattle.graph.proofs.Placing.{no_edge, placed_elsewhere, placed_here, placed_more, with_none}
use Rattle.graph.proofs.place.place_among.Goals as goal

pub loop-index-init : goal.loop-index-init
loop-index-init c = sym (with_none _)

pub push_edge-requires : goal.push_edge-requires
push_edge-requires c =
    placed_here (entries_of c.args.vertices.now) c.loop-index.vertices c.args.edges.now c.loop-index.index c.in-Some.source c.loop-index.invariant
    (omega (arith, ap length c.requires.same, c.in-Some.ensures))

pub loop-index-preserved-in_default : goal.loop-index-preserved-in_default
loop-index-preserved-in_default c =
    placed_elsewhere (entries_of c.args.vertices.now) (entries_of c.loop-index.vertices) c.args.edges.now c.loop-index.index no_edge c.loop-index.invariant c.loop-index-test.true
    (rw c.requires.same at c.in_default.ensures)

pub loop-index-preserved : goal.loop-index-preserved
loop-index-preserved c =
    let rise = subst (λ (numbers : List ℕ). IsStrictlyIncreasing numbers) c.requires.same c.requires.rising in
    let source = rw c.requires.same at c.in-Some.ensures in
    rw c.in_ok-push_edge.ensures
    (placed_more (entries_of c.args.vertices.now) (entries_of c.loop-index.vertices) c.args.edges.now c.loop-index.index c.in-Some.source no_edge
    rise c.loop-index.invariant c.loop-index-test.true source.0 source.1)
