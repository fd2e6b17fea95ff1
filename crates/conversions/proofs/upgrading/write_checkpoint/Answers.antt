use Rattle.std.proofs.Common.{subst, ◌∙◌, string_bytes}
use Rattle.std.specs.Prelude.{IfOk, OnErr}
use Rattle.checkpoint.specs.Checkpoint.{checkpoint_bytes}
use Rattle.sources.specs.Disk.{Tries}
use Rattle.conversions.specs.Outputs.{PrintsWritten}
use Rattle.sources.proofs.Faults.{is_fault}
use Rattle.sources.proofs.Disks.{tries_nothing}
use Rattle.conversions.proofs.upgrading.write_checkpoint.Goals as goal

pub returns-in_err-bytes-clause-tried : goal.returns-in_err-bytes-clause-tried
returns-in_err-bytes-clause-tried g c =
    rw (is_fault _ _ c.from_residual.ensures.1)
    (tries_nothing c.args.newer.now (checkpoint_bytes c.args.state.now) (g.F.Files.disk c.args.files.now))

pub returns-clause-answered : goal.returns-clause-answered
returns-clause-answered g c =
    subst (λ bs. IfOk c.write_told.result (λ text. PrintsWritten (g.F.Files.disk c.args.files.now) (g.F.Files.disk c.write_told.new.files) bs c.args.newer.now (string_bytes text)))
    (c.as_slice.ensures.value ∙ c.in_ok-bytes.ensures.bytes) c.write_told.ensures.answered

pub returns-clause-tried : goal.returns-clause-tried
returns-clause-tried g c =
    subst (λ bs. OnErr c.write_told.result (Tries c.args.newer.now bs (g.F.Files.disk c.args.files.now) (g.F.Files.disk c.write_told.new.files)))
    (c.as_slice.ensures.value ∙ c.in_ok-bytes.ensures.bytes) c.write_told.ensures.tried
