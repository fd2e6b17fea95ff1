use Rattle.std.proofs.Common.{◌≡◌, inl, inr, Ok}
use Rattle.std.specs.String.{string_bytes}
use Rattle.plain_commands.specs.Steps.{steps_of}
use Rattle.sources.proofs.Disks.{holds_before, stays_again}
use Rattle.plain_commands.proofs.Disks.{no_steps_before}
use Rattle.sources.proofs.Faults.{IfErr-along, IfOk-along, is_fault}
use Rattle.plain_commands.proofs.Replays.{fault_of_lent, lines_of_lent}
use Rattle.plain_commands.proofs.replay.replay_files.Goals as goal

pub returns-in_err-job-clause-refused : goal.returns-in_err-job-clause-refused
returns-in_err-job-clause-refused g c = rw (is_fault _ _ c.from_residual.ensures.1) (inl c.in_err-job.ensures.found)

pub returns-in_err-steps-clause-refused : goal.returns-in_err-steps-clause-refused
returns-in_err-steps-clause-refused g c =
    rw (is_fault _ _ c.from_residual-in_err-steps.ensures.1)
    (inr (
      c.in_ok-job.job,
      c.in_ok-job.ensures.found,
      inl (no_steps_before (g.F.Files.disk c.args.files.now) (g.F.Files.disk c.job_of.new.files) c.args.steps.now c.in_ok-job.ensures.kept _
          c.in_err-steps.ensures.found),
    ))

pub returns-clause-answered : goal.returns-clause-answered
returns-clause-answered g c =
    let steps = c.in_ok-steps.steps.items in
    let read = holds_before (g.F.Files.disk c.args.files.now) (g.F.Files.disk c.job_of.new.files) c.args.steps.now
    (λ text. steps_of text ≡ Ok steps) c.in_ok-job.ensures.kept c.in_ok-steps.ensures.found in
    IfOk-along c.replay.result
    (λ text told. (
      c.in_ok-job.job,
      c.in_ok-job.ensures.found,
      (steps, read, lines_of_lent c.in_ok-job.job c.args.asked.tells_units c.as_slice.result.now steps (string_bytes text) c.as_slice.ensures.value told),
    ))
    c.replay.ensures.told

pub returns-clause-refused : goal.returns-clause-refused
returns-clause-refused g c =
    let steps = c.in_ok-steps.steps.items in
    let read = holds_before (g.F.Files.disk c.args.files.now) (g.F.Files.disk c.job_of.new.files) c.args.steps.now
    (λ text. steps_of text ≡ Ok steps) c.in_ok-job.ensures.kept c.in_ok-steps.ensures.found in
    IfErr-along c.replay.result
    (λ fault is. inr (
      c.in_ok-job.job,
      c.in_ok-job.ensures.found,
      inr (steps, read, fault_of_lent c.in_ok-job.job c.as_slice.result.now steps fault c.as_slice.ensures.value is),
    ))
    c.replay.ensures.refused

pub returns-in_err-steps-clause-kept : goal.returns-in_err-steps-clause-kept
returns-in_err-steps-clause-kept g c =
    stays_again (g.F.Files.disk c.args.files.now) (g.F.Files.disk c.job_of.new.files) (g.F.Files.disk c.read_steps.new.files)
    c.in_ok-job.ensures.kept c.in_err-steps.ensures.kept

pub returns-clause-kept : goal.returns-clause-kept
returns-clause-kept g c =
    stays_again (g.F.Files.disk c.args.files.now) (g.F.Files.disk c.job_of.new.files) (g.F.Files.disk c.read_steps.new.files)
    c.in_ok-job.ensures.kept c.in_ok-steps.ensures.kept
