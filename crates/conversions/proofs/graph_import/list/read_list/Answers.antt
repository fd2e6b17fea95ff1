use Rattle.std.proofs.Common.{length}
use Rattle.std.proofs.lemmas.List.{length_push}
use Rattle.std.proofs.lemmas.List.Elements.{All-nil}
use Rattle.std.proofs.lemmas.Iterator.Consumers.{YieldsList-at, YieldsList-end, YieldsList-from_enumerate, YieldsList-turn}
use Rattle.std.proofs.lemmas.Iterator.Splits.{YieldsList-from_lines}
use Rattle.graph.specs.edge_list.Said.{lines_of}
use Rattle.conversions.proofs.Lines.{adds_all, adds_next, adds_none, good_all, good_next, line_comes}
use Rattle.conversions.proofs.graph_import.list.read_list.Goals as goal

pub loop-index-init : goal.loop-index-init
loop-index-init c = record {
  adds = adds_none c.args.edges.now.both_ways (lines_of c.args.form c.args.text.now) c.args.edges.now;
  good = All-nil _;
}

pub loop-index-preserved : goal.loop-index-preserved
loop-index-preserved c =
    let road = YieldsList-at c.into_iter-index-iterator.ensures.into_iter_gives (YieldsList-from_enumerate (YieldsList-at c.enumerate-index-items.ensures.source (YieldsList-from_lines c.args.text.now c.lines.ensures.rest)) c.enumerate-index-items.ensures.count) in
    let turn = YieldsList-turn road c.loop-index.yielded c.loop-index.index-iterator c.loop-index.yielded_by c.next.result c.next.new.self (c.in-Some.index, c.in-Some.line) c.in-Some.is c.next.ensures.steps in
    let comes = line_comes c.args.form c.args.text.now (length c.loop-index.yielded) c.in-Some.index c.in-Some.line.now c.line_of.result turn.0 turn.1 c.line_of.ensures.said in
    rw length_push (record {
      adds = adds_next (lines_of c.args.form c.args.text.now) (length c.loop-index.yielded) c.line_of.result c.args.edges.now c.loop-index.edges
          c.add_line.new.self comes c.loop-index.invariant.adds c.in_ok-add_line.ensures.added;
      good = good_next (lines_of c.args.form c.args.text.now) (length c.loop-index.yielded) c.line_of.result comes c.loop-index.invariant.good
          c.in_ok-add_line.ensures.good;
    })

pub returns-clause-added : goal.returns-clause-added
returns-clause-added c =
    let road = YieldsList-at c.into_iter-index-iterator.ensures.into_iter_gives (YieldsList-from_enumerate (YieldsList-at c.enumerate-index-items.ensures.source (YieldsList-from_lines c.args.text.now c.lines.ensures.rest)) c.enumerate-index-items.ensures.count) in
    let end = YieldsList-end road c.loop-index.yielded c.loop-index.index-iterator c.loop-index.yielded_by c.next.result c.next.new.self c.in-None.is c.next.ensures.steps in
    adds_all c.args.form c.args.text.now (length c.loop-index.yielded) c.args.edges.now c.loop-index.edges c.loop-index.invariant.adds end.1

pub returns-clause-good : goal.returns-clause-good
returns-clause-good c =
    let road = YieldsList-at c.into_iter-index-iterator.ensures.into_iter_gives (YieldsList-from_enumerate (YieldsList-at c.enumerate-index-items.ensures.source (YieldsList-from_lines c.args.text.now c.lines.ensures.rest)) c.enumerate-index-items.ensures.count) in
    let end = YieldsList-end road c.loop-index.yielded c.loop-index.index-iterator c.loop-index.yielded_by c.next.result c.next.new.self c.in-None.is c.next.ensures.steps in
    good_all c.args.form c.args.text.now (length c.loop-index.yielded) c.loop-index.invariant.good end.1
