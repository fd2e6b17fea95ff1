use Rattle.std.proofs.Common.{inl, inr}
use Rattle.checkpoint.specs.Checkpoint.{checkpoint_bytes}
use Rattle.sources.proofs.Faults.{IfErr-along, IfOk-along, OnErr-along, is_fault}
use Rattle.sources.proofs.Disks.{stays_again, tries_then, unwritable_before}
use Rattle.conversions.proofs.Disks.{written_then}
use Rattle.conversions.proofs.upgrading.upgrade_file.Goals as goal

pub returns-in_err-state-clause-refused : goal.returns-in_err-state-clause-refused
returns-in_err-state-clause-refused g c = rw (is_fault _ _ c.from_residual.ensures.1) (inl c.in_err-state.ensures.found)

pub returns-in_err-state-clause-before : goal.returns-in_err-state-clause-before
returns-in_err-state-clause-before g c = rw (is_fault _ _ c.from_residual.ensures.1) (λ before. c.in_err-state.ensures.kept)

pub returns-in_err-state-clause-tried : goal.returns-in_err-state-clause-tried
returns-in_err-state-clause-tried g c = rw (is_fault _ _ c.from_residual.ensures.1) (inl c.in_err-state.ensures.kept)

pub returns-clause-answered : goal.returns-clause-answered
returns-clause-answered g c =
    IfOk-along c.write_checkpoint.result
    (λ text is. (
      c.in_ok-state.state,
      c.in_ok-state.ensures.found,
      written_then (g.F.Files.disk c.args.files.now) (g.F.Files.disk c.read_checkpoint.new.files) (g.F.Files.disk c.write_checkpoint.new.files)
          (checkpoint_bytes c.in_ok-state.state) c.args.newer.now _ c.in_ok-state.ensures.kept is,
    ))
    c.write_checkpoint.ensures.answered

pub returns-clause-refused : goal.returns-clause-refused
returns-clause-refused g c =
    IfErr-along c.write_checkpoint.result
    (λ fault is. inr (
      c.in_ok-state.state,
      c.in_ok-state.ensures.found,
      unwritable_before (g.F.Files.disk c.args.files.now) (g.F.Files.disk c.read_checkpoint.new.files) c.args.newer.now c.in_ok-state.ensures.kept fault is,
    ))
    c.write_checkpoint.ensures.refused

pub returns-clause-before : goal.returns-clause-before
returns-clause-before g c =
    IfErr-along c.write_checkpoint.result
    (λ fault stays before. stays_again (g.F.Files.disk c.args.files.now) (g.F.Files.disk c.read_checkpoint.new.files)
    (g.F.Files.disk c.write_checkpoint.new.files) c.in_ok-state.ensures.kept (stays before))
    c.write_checkpoint.ensures.before

pub returns-clause-tried : goal.returns-clause-tried
returns-clause-tried g c =
    OnErr-along c.write_checkpoint.result
    (λ tries. inr (
      c.in_ok-state.state,
      c.in_ok-state.ensures.found,
      tries_then c.args.newer.now (checkpoint_bytes c.in_ok-state.state) (g.F.Files.disk c.args.files.now) (g.F.Files.disk c.read_checkpoint.new.files)
          (g.F.Files.disk c.write_checkpoint.new.files) c.in_ok-state.ensures.kept tries,
    ))
    c.write_checkpoint.ensures.tried
