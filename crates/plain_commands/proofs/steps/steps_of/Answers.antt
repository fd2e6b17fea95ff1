use Rattle.std.proofs.Common.{◌≡◌, [], length, map, rules}
use Rattle.std.specs.Str.Lines.{lines}
use Rattle.std.proofs.lemmas.List.{length_push}
use Rattle.std.proofs.lemmas.Iterator.Consumers.{YieldsList-at, YieldsList-from_enumerate, YieldsList-turn, YieldsList-end}
use Rattle.std.proofs.lemmas.Iterator.Splits.{YieldsList-from_lines}
use Rattle.plain_commands.specs.StepLine.{step_line_of}
use Rattle.plain_commands.specs.Steps.{IsStepsFault}
use Rattle.plain_commands.proofs.StepLines.{none_read, reads_all, reads_next, refused_next}
use Rattle.call_lines.proofs.TextLines.{line_comes, line_counted, none_left}
use Rattle.plain_commands.proofs.steps.steps_of.Goals as goal

pub loop-index-init : goal.loop-index-init
loop-index-init c =
    let none : c.new-steps.result.items ≡ [] = search rules in
    none_read (map step_line_of (lines c.args.text.now)) c.new-steps.result.items none

pub loop-index-preserved : goal.loop-index-preserved
loop-index-preserved c =
    let road = YieldsList-at c.into_iter-index-iterator.ensures.into_iter_gives (YieldsList-from_enumerate (YieldsList-at c.enumerate-index-items.ensures.source (YieldsList-from_lines c.args.text.now c.lines.ensures.rest)) c.enumerate-index-items.ensures.count) in
    let turn = YieldsList-turn road c.loop-index.yielded c.loop-index.index-iterator c.loop-index.yielded_by c.next.result c.next.new.self (c.in-Some.index, c.in-Some.line) c.in-Some.is c.next.ensures.steps in
    let comes = line_comes step_line_of c.args.text.now (length c.loop-index.yielded) c.in-Some.index c.in-Some.line.now c.step_line_of.result turn.0 turn.1 c.step_line_of.ensures in
    rw length_push (reads_next (map step_line_of (lines c.args.text.now)) (length c.loop-index.yielded) c.step_line_of.result c.loop-index.steps.items c.add.new.steps.items comes c.in_ok-add.ensures.added c.loop-index.invariant)

pub returns-in_err-add : goal.returns-in_err-add
returns-in_err-add c =
    let road = YieldsList-at c.into_iter-index-iterator.ensures.into_iter_gives (YieldsList-from_enumerate (YieldsList-at c.enumerate-index-items.ensures.source (YieldsList-from_lines c.args.text.now c.lines.ensures.rest)) c.enumerate-index-items.ensures.count) in
    let turn = YieldsList-turn road c.loop-index.yielded c.loop-index.index-iterator c.loop-index.yielded_by c.next.result c.next.new.self (c.in-Some.index, c.in-Some.line) c.in-Some.is c.next.ensures.steps in
    let comes = line_comes step_line_of c.args.text.now (length c.loop-index.yielded) c.in-Some.index c.in-Some.line.now c.step_line_of.result turn.0 turn.1 c.step_line_of.ensures in
    let counted = line_counted c.args.text.now (length c.loop-index.yielded) c.in-Some.index c.in-Some.line.now turn.0 turn.1 in
    let refused : IsStepsFault c.args.text.now c.in_err-add.field-0.0 =
    refused_next c.args.text.now (length c.loop-index.yielded) c.in-Some.index c.step_line_of.result c.loop-index.steps.items c.in_err-add.field-0.0 counted comes c.loop-index.invariant c.in_err-add.ensures.refused in
    search (rules, refused)

pub returns : goal.returns
returns c =
    let road = YieldsList-at c.into_iter-index-iterator.ensures.into_iter_gives (YieldsList-from_enumerate (YieldsList-at c.enumerate-index-items.ensures.source (YieldsList-from_lines c.args.text.now c.lines.ensures.rest)) c.enumerate-index-items.ensures.count) in
    let end = YieldsList-end road c.loop-index.yielded c.loop-index.index-iterator c.loop-index.yielded_by c.next.result c.next.new.self c.in-None.is c.next.ensures.steps in
    reads_all (map step_line_of (lines c.args.text.now)) (length c.loop-index.yielded) c.loop-index.steps.items
    (none_left step_line_of c.args.text.now (length c.loop-index.yielded) end.1) c.loop-index.invariant
