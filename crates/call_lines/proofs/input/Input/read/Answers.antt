use Rattle.std.proofs.Common.{length, rules}
use Rattle.std.proofs.lemmas.List.{length_push}
use Rattle.std.proofs.lemmas.Iterator.Consumers.{YieldsList-at, YieldsList-from_enumerate, YieldsList-turn, YieldsList-end}
use Rattle.std.proofs.lemmas.Iterator.Splits.{YieldsList-from_lines}
use Rattle.call_lines.specs.InputSays.{lines_of}
use Rattle.call_lines.specs.InputFaults.{IsInputFault}
use Rattle.call_lines.specs.InputLine.{line_of}
use Rattle.call_lines.proofs.InputLines.{refused_next, says_all, says_next}
use Rattle.call_lines.proofs.TextLines.{line_comes, line_counted}
use Rattle.call_lines.proofs.input.Input.read.Goals as goal

pub loop-index-preserved : goal.loop-index-preserved
loop-index-preserved c =
    let road = YieldsList-at c.into_iter-index-iterator.ensures.into_iter_gives (YieldsList-from_enumerate (YieldsList-at c.enumerate-index-items.ensures.source (YieldsList-from_lines c.args.text.now c.lines.ensures.rest)) c.enumerate-index-items.ensures.count) in
    let turn = YieldsList-turn road c.loop-index.yielded c.loop-index.index-iterator c.loop-index.yielded_by c.next.result c.next.new.self (c.in-Some.index, c.in-Some.line) c.in-Some.is c.next.ensures.steps in
    let comes = line_comes line_of c.args.text.now (length c.loop-index.yielded) c.in-Some.index c.in-Some.line.now c.line_of.result turn.0 turn.1 c.line_of.ensures in
    rw length_push (says_next (lines_of c.args.text.now) (length c.loop-index.yielded) c.line_of.result c.loop-index.input c.add.new.self comes c.loop-index.invariant c.in_ok-add.ensures.added)

pub returns-in_err-add-clause-refused : goal.returns-in_err-add-clause-refused
returns-in_err-add-clause-refused c =
    let road = YieldsList-at c.into_iter-index-iterator.ensures.into_iter_gives (YieldsList-from_enumerate (YieldsList-at c.enumerate-index-items.ensures.source (YieldsList-from_lines c.args.text.now c.lines.ensures.rest)) c.enumerate-index-items.ensures.count) in
    let turn = YieldsList-turn road c.loop-index.yielded c.loop-index.index-iterator c.loop-index.yielded_by c.next.result c.next.new.self (c.in-Some.index, c.in-Some.line) c.in-Some.is c.next.ensures.steps in
    let comes = line_comes line_of c.args.text.now (length c.loop-index.yielded) c.in-Some.index c.in-Some.line.now c.line_of.result turn.0 turn.1 c.line_of.ensures in
    let counted = line_counted c.args.text.now (length c.loop-index.yielded) c.in-Some.index c.in-Some.line.now turn.0 turn.1 in
    let refused : IsInputFault (lines_of c.args.text.now) c.in_err-add.field-0.0 =
    refused_next (lines_of c.args.text.now) (length c.loop-index.yielded) c.in-Some.index c.line_of.result c.loop-index.input c.in_err-add.field-0.0 counted comes c.loop-index.invariant c.in_err-add.ensures.refused in
    search (rules, refused)

pub returns-clause-says : goal.returns-clause-says
returns-clause-says c =
    let road = YieldsList-at c.into_iter-index-iterator.ensures.into_iter_gives (YieldsList-from_enumerate (YieldsList-at c.enumerate-index-items.ensures.source (YieldsList-from_lines c.args.text.now c.lines.ensures.rest)) c.enumerate-index-items.ensures.count) in
    let end = YieldsList-end road c.loop-index.yielded c.loop-index.index-iterator c.loop-index.yielded_by c.next.result c.next.new.self c.in-None.is c.next.ensures.steps in
    says_all c.args.text.now (length c.loop-index.yielded) c.loop-index.input c.loop-index.invariant end.1
