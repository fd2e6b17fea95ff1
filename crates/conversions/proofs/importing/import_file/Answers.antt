use Rattle.std.proofs.Common.{inl, inr}
use Rattle.sources.proofs.Faults.{IfErr-along, IfOk-along, OnErr-along, is_fault}
use Rattle.conversions.specs.Importing.{files_of}
use Rattle.sources.proofs.Writes.{tries_later, writes_later}
use Rattle.conversions.proofs.Imports.{unwritten_late}
use Rattle.conversions.proofs.importing.import_file.Goals as goal

pub returns-in_err-made-clause-refused : goal.returns-in_err-made-clause-refused
returns-in_err-made-clause-refused g c = rw (is_fault _ _ c.from_residual.ensures.1) (inl c.in_err-made.ensures.found)

pub returns-in_err-made-clause-before : goal.returns-in_err-made-clause-before
returns-in_err-made-clause-before g c = rw (is_fault _ _ c.from_residual.ensures.1) (λ before. c.in_err-made.ensures.kept)

pub returns-in_err-made-clause-tried : goal.returns-in_err-made-clause-tried
returns-in_err-made-clause-tried g c = rw (is_fault _ _ c.from_residual.ensures.1) (inl c.in_err-made.ensures.kept)

pub returns-clause-answered : goal.returns-clause-answered
returns-clause-answered g c =
    IfOk-along c.write_made.result
    (λ text is. (
      c.in_ok-made.made,
      c.in_ok-made.ensures.found,
      record {
        written = writes_later (files_of c.args.asked c.in_ok-made.made) (g.F.Files.disk c.args.files.now) (g.F.Files.disk c.made_in.new.files)
            (g.F.Files.disk c.write_made.new.files) c.in_ok-made.ensures.kept is.written;
        line_of_counts = is.line_of_counts;
      },
    ))
    c.write_made.ensures.answered

pub returns-clause-refused : goal.returns-clause-refused
returns-clause-refused g c =
    IfErr-along c.write_made.result (λ fault is. inr (c.in_ok-made.made, c.in_ok-made.ensures.found, is)) c.write_made.ensures.refused

pub returns-clause-before : goal.returns-clause-before
returns-clause-before g c =
    IfErr-along c.write_made.result (λ fault is before. unwritten_late c.args.asked fault _ is before) c.write_made.ensures.refused

pub returns-clause-tried : goal.returns-clause-tried
returns-clause-tried g c =
    OnErr-along c.write_made.result
    (λ tries. inr (
      c.in_ok-made.made,
      c.in_ok-made.ensures.found,
      tries_later (files_of c.args.asked c.in_ok-made.made) (g.F.Files.disk c.args.files.now) (g.F.Files.disk c.made_in.new.files)
          (g.F.Files.disk c.write_made.new.files) c.in_ok-made.ensures.kept tries,
    ))
    c.write_made.ensures.tried
