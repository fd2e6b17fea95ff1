use Rattle.std.proofs.Common.{arith, subst}
use Rattle.std.specs.List.{All}
use Rattle.std.proofs.lemmas.List.{take_all}
use Rattle.std.proofs.lemmas.List.Elements.{All-more}
use Rattle.graph.specs.inside.Placed.{HasEnds}
use Rattle.graph.proofs.Placing.{ends_from, first_from, no_edge}
use Rattle.graph.proofs.place.first_unknown.Goals as goal

pub returns-in_default : goal.returns-in_default
returns-in_default c = first_from c.args.ids.now c.args.edges.now c.loop-index.index no_edge c.loop-index-test.true c.loop-index.invariant c.in_default.ensures

pub loop-index-preserved : goal.loop-index-preserved
loop-index-preserved c =
    All-more (HasEnds c.args.ids.now) c.args.edges.now c.loop-index.index no_edge c.loop-index-test.true c.loop-index.invariant (ends_from c.args.ids.now _ c.in-Some.source c.in-Some.ensures)

pub returns : goal.returns
returns c = subst (All (HasEnds c.args.ids.now)) (take_all c.loop-index.index c.args.edges.now (omega arith)) c.loop-index.invariant
