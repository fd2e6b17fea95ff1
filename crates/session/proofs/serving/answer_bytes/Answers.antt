use Rattle.std.proofs.Common.{◌∙◌, arith}
use Rattle.sources.proofs.Faults.{is_fault}
use Rattle.session.specs.inside.Seen.{maps_of}
use Rattle.session.proofs.Loops.{answers_so, at_break, at_next, at_quit, at_start, at_want}
use Rattle.session.proofs.serving.answer_bytes.Goals as goal

pub loop-front-init : goal.loop-front-init
loop-front-init g c = record {
  room = c.requires.room;
  at = at_start (g.F.Files.disk c.args.files.now) (g.N.Runner.runs c.args.runner.now) (maps_of c.args.session.now) c.args.line.now.items c.args.bytes.now
      (g.W.Write.contents c.args.writer.now);
}

pub returns-in_err-keep-clause-answered : goal.returns-in_err-keep-clause-answered
returns-in_err-keep-clause-answered g c =
    rw (is_fault _ _ c.from_residual.ensures.1) (at_want _ _ _ _ _ _ _ _ _ _ _ c.loop-front.invariant.at)

pub returns-in_err-answer_line-clause-answered : goal.returns-in_err-answer_line-clause-answered
returns-in_err-answer_line-clause-answered g c =
    let full_is = c.as_slice.ensures.value ∙ c.in_ok-keep.ensures.kept in
    rw (is_fault _ _ c.from_residual-in_err-answer_line.ensures.1)
    (at_break _ _ _ _ _ _ _ _ _ _ _ c.loop-front.invariant.at c.in-Some.front.now c.in-Some.others.now c.as_slice.result.now c.in-Some.ensures.cut
    full_is (maps_of c.answer_line.new.session) (g.W.Write.contents c.answer_line.new.writer) c.in_err-answer_line.field-0.0 c.in_err-answer_line.ensures.answered)

pub returns-then-branch-clause-answered : goal.returns-then-branch-clause-answered
returns-then-branch-clause-answered g c =
    let full_is = c.as_slice.ensures.value ∙ c.in_ok-keep.ensures.kept in
    at_quit _ _ _ _ _ _ _ _ _ _ _ c.loop-front.invariant.at c.in-Some.front.now c.in-Some.others.now c.as_slice.result.now c.in-Some.ensures.cut full_is
    (maps_of c.answer_line.new.session) (g.W.Write.contents c.answer_line.new.writer)
    (answers_so _ _ _ _ _ _ _ _ _ c.if-branch.true c.in_ok-answer_line.ensures.answered)

pub loop-front-preserved : goal.loop-front-preserved
loop-front-preserved g c =
    let full_is = c.as_slice.ensures.value ∙ c.in_ok-keep.ensures.kept in
    record {
      room = omega (arith, c.clear.ensures.len);
      at = rw c.clear.ensures.items (at_next _ _ _ _ _ _ _ _ _ _ _ c.loop-front.invariant.at c.in-Some.front.now c.in-Some.others.now c.as_slice.result.now c.in-Some.ensures.cut full_is
          (maps_of c.answer_line.new.session) (g.W.Write.contents c.answer_line.new.writer)
          (g.F.Files.disk c.answer_line.new.files)
          (answers_so _ _ _ _ _ _ _ _ _ c.if-branch.false c.in_ok-answer_line.ensures.answered) c.in_ok-answer_line.ensures.files);
    }

pub returns-in_err-keep-2-clause-answered : goal.returns-in_err-keep-2-clause-answered
returns-in_err-keep-2-clause-answered g c =
    rw (is_fault _ _ c.from_residual-in_err-keep-2.ensures.1) (at_want _ _ _ _ _ _ _ _ _ _ _ c.loop-front.invariant.at)
