use Rattle.std.proofs.Common.{◌∙◌, Err, ap, arith, length, subst}
use Rattle.sources.proofs.Disks.{stays_again}
use Rattle.sources.proofs.Faults.{is_fault}
use Rattle.line_text.proofs.Writing.{keeps}
use Rattle.session.specs.inside.Seen.{maps_of}
use Rattle.session.specs.inside.Underway.{GetsSome}
use Rattle.session.proofs.Loops.{bytes_so, gets_none, gets_some, served_break, served_end, served_quit, served_read, serving_interrupted, serving_more, serving_start}
use Rattle.session.proofs.serving.serve_lines.Goals as goal

pub returns-in_err-count-clause-served : goal.returns-in_err-count-clause-served
returns-in_err-count-clause-served g c =
    rw (is_fault _ _ c.from_residual.ensures.1 ∙ ap Err c.in_err-count.ensures.0)
    (served_read _ _ _ _ _ _ _ _ _ _ c.reads.invariant.serving (g.R.Read.remaining c.read_some.new.reader) c.in_err-count.ensures.1)

pub returns-then-count-eq0-clause-served : goal.returns-then-count-eq0-clause-served
returns-then-count-eq0-clause-served g c =
    let end = gets_none _ _ _ _ c.in-Some.count c.in-Some.is c.if-count-eq0.true (omega (arith, c.read_some.auto.chunk)) c.in_ok-count.ensures in
    served_end _ _ _ _ _ _ _ _ _ _ c.reads.invariant.serving (g.R.Read.remaining c.read_some.new.reader) end.0 end.1

pub returns-in_err-answer_bytes-clause-served : goal.returns-in_err-answer_bytes-clause-served
returns-in_err-answer_bytes-clause-served g c =
    rw (is_fault _ _ c.from_residual-in_err-answer_bytes.ensures.1)
    (served_break _ _ _ _ _ _ _ _ _ _ c.reads.invariant.serving _ (g.R.Read.remaining c.read_some.new.reader)
    (gets_some _ _ _ _ c.in-Some.count c.in-Some.is c.in_ok-count.ensures) (maps_of c.answer_bytes.new.session)
    (g.W.Write.contents c.answer_bytes.new.writer) c.answer_bytes.new.line.items c.in_err-answer_bytes.field-0.0
    c.in_err-answer_bytes.ensures.answered.0 c.in_err-answer_bytes.ensures.answered.1)

pub returns-then-branch-clause-served : goal.returns-then-branch-clause-served
returns-then-branch-clause-served g c =
    served_quit _ _ _ _ _ _ _ _ _ _ c.reads.invariant.serving _ (g.R.Read.remaining c.read_some.new.reader)
    (gets_some _ _ _ _ c.in-Some.count c.in-Some.is c.in_ok-count.ensures) (maps_of c.answer_bytes.new.session)
    (g.W.Write.contents c.answer_bytes.new.writer) c.answer_bytes.new.line.items
    (bytes_so _ _ _ _ c.if-branch.true c.in_ok-answer_bytes.ensures.answered)

pub reads-preserved : goal.reads-preserved
reads-preserved g c = record {
  room = c.in_ok-answer_bytes.ensures.room;
  serving = serving_more _ _ _ _ _ _ _ _ _ _ c.reads.invariant.serving _ (g.R.Read.remaining c.read_some.new.reader)
      (gets_some _ _ _ _ c.in-Some.count c.in-Some.is c.in_ok-count.ensures) (maps_of c.answer_bytes.new.session)
      (g.W.Write.contents c.answer_bytes.new.writer) c.answer_bytes.new.line.items (g.F.Files.disk c.answer_bytes.new.files)
      (bytes_so _ _ _ _ c.if-branch.false c.in_ok-answer_bytes.ensures.answered)
      c.in_ok-answer_bytes.ensures.files;
}

pub returns-clause-served : goal.returns-clause-served
returns-clause-served g c =
    served_read _ _ _ _ _ _ _ _ _ _ c.reads.invariant.serving (g.R.Read.remaining c.reads.reader) (keeps (g.R.Read.remaining c.reads.reader))

pub reads-init : goal.reads-init
reads-init g c = record {
  room = omega (arith, ap length c.requires.empty, c.args.line.now.ok.0);
  serving = serving_start (g.F.Files.disk c.args.files.now) (g.N.Runner.runs c.args.runner.now) (maps_of c.args.session.now)
      (g.R.Read.remaining c.args.reader.now) (g.W.Write.contents c.args.writer.now) c.args.line.now.items c.requires.empty;
}

pub returns-in_err-count-clause-files : goal.returns-in_err-count-clause-files
returns-in_err-count-clause-files g c = c.reads.invariant.serving.stays

pub returns-then-count-eq0-clause-files : goal.returns-then-count-eq0-clause-files
returns-then-count-eq0-clause-files g c = c.reads.invariant.serving.stays

pub returns-in_err-answer_bytes-clause-files : goal.returns-in_err-answer_bytes-clause-files
returns-in_err-answer_bytes-clause-files g c =
    stays_again (g.F.Files.disk c.args.files.now) (g.F.Files.disk c.reads.files) (g.F.Files.disk c.answer_bytes.new.files)
    c.reads.invariant.serving.stays c.answer_bytes.ensures.files

pub returns-then-branch-clause-files : goal.returns-then-branch-clause-files
returns-then-branch-clause-files g c =
    stays_again (g.F.Files.disk c.args.files.now) (g.F.Files.disk c.reads.files) (g.F.Files.disk c.answer_bytes.new.files)
    c.reads.invariant.serving.stays c.answer_bytes.ensures.files

pub returns-clause-files : goal.returns-clause-files
returns-clause-files g c = c.reads.invariant.serving.stays

pub reads-preserved-in_default : goal.reads-preserved-in_default
reads-preserved-in_default g c = record {
  room = c.reads.invariant.room;
  serving = serving_interrupted _ _ _ _ _ _ _ _ _ _ c.reads.invariant.serving (g.R.Read.remaining c.read_some.new.reader)
      (subst (GetsSome (g.R.Read.remaining c.reads.reader) (g.R.Read.remaining c.read_some.new.reader) c.read_some.new.chunk) c.in_default.is
      c.in_ok-count.ensures);
}
