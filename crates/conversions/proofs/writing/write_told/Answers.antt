use Rattle.sources.proofs.Faults.{is_fault}
use Rattle.sources.proofs.Disks.{tries_nothing}
use Rattle.conversions.proofs.Disks.{written_late}
use Rattle.conversions.proofs.writing.write_told.Goals as goal

pub returns-in_err-told-clause-tried : goal.returns-in_err-told-clause-tried
returns-in_err-told-clause-tried g c =
    rw (is_fault _ _ c.from_residual.ensures.1) (tries_nothing c.args.path.now c.args.bytes.now (g.F.Files.disk c.args.files.now))

pub returns-in_err-write-clause-refused : goal.returns-in_err-write-clause-refused
returns-in_err-write-clause-refused g c = rw (is_fault _ _ c.from_residual-in_err-write.ensures.1) c.in_err-write.ensures.refused

pub returns-in_err-write-clause-before : goal.returns-in_err-write-clause-before
returns-in_err-write-clause-before g c =
    rw (is_fault _ _ c.from_residual-in_err-write.ensures.1)
    (λ before. written_late (g.F.Files.disk c.args.files.now) c.args.path.now c.in_err-write.field-0.0 _ c.in_err-write.ensures.refused before)

pub returns-in_err-write-clause-tried : goal.returns-in_err-write-clause-tried
returns-in_err-write-clause-tried g c = rw (is_fault _ _ c.from_residual-in_err-write.ensures.1) c.in_err-write.ensures.tried

pub returns-clause-answered : goal.returns-clause-answered
returns-clause-answered g c =
    record { written = c.in_ok-write.ensures.written; line_of_length = c.in_ok-told.ensures }
