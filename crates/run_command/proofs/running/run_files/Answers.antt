use Rattle.std.proofs.Common.{◌∙◌, ap, inl, inr, is_some, string_bytes, subst}
use Rattle.sources.proofs.Disks.{stays_again}
use Rattle.sources.proofs.Faults.{IfErr-along, IfOk-along, is_fault}
use Rattle.run_views.specs.declared.loss.LossGate.{LossGate}
use Rattle.run_command.specs.Jobs.{AreRunLines}
use Rattle.run_command.proofs.Noted.{end_noted, fault_noted, only_noted, unopened_noted}
use Rattle.run_command.proofs.Folders.{keeping_before}
use Rattle.run_command.proofs.running.run_files.Goals as goal

pub returns-in_err-loss-clause-refused : goal.returns-in_err-loss-clause-refused
returns-in_err-loss-clause-refused g c = rw (is_fault _ _ c.from_residual.ensures.1) (inl c.in_err-loss.ensures.refused.1)

pub returns-in_err-job-clause-refused : goal.returns-in_err-job-clause-refused
returns-in_err-job-clause-refused g c =
    rw (is_fault _ _ c.from_residual-in_err-job.ensures.1)
    (inr (c.in_ok-loss.loss, c.in_ok-loss.ensures.named, inl c.in_err-job.ensures.found))

pub returns-clause-answered : goal.returns-clause-answered
returns-clause-answered g c =
    let loss = ap (λ (gate : LossGate). gate.loss) c.new-gate.ensures ∙ c.new-loss.ensures.loss in
    IfOk-along c.run_kept.result
    (λ text told. record {
      loss = c.in_ok-loss.loss;
      named = c.in_ok-loss.ensures.named;
      job = c.in_ok-job.job;
      is_job = c.in_ok-job.ensures.found;
      lines = subst (λ l. AreRunLines c.in_ok-job.job c.args.asked.keep l c.args.asked.resume c.args.asked.job.tells_units (string_bytes text)) loss told;
    })
    c.run_kept.ensures.told

pub returns-clause-refused : goal.returns-clause-refused
returns-clause-refused g c =
    let before = g.F.Files.disk c.args.files.now in
    let middle = g.F.Files.disk c.job_of.new.files in
    let after = g.F.Files.disk c.warn_of_run.new.files in
    let stays = stays_again before middle after c.in_ok-job.ensures.kept c.warn_of_run.ensures in
    IfErr-along c.run_kept.result
    (λ fault is. inr (
      c.in_ok-loss.loss,
      c.in_ok-loss.ensures.named,
      inr (c.in_ok-job.job, c.in_ok-job.ensures.found, keeping_before before after c.args.asked stays fault is),
    ))
    c.run_kept.ensures.refused

pub returns-clause-noted : goal.returns-clause-noted
returns-clause-noted g c = λ asks.
    let watched = ap (λ (gate : LossGate). is_some gate.watch) c.new-gate.ensures ∙ c.watch_of.ensures ∙ asks in
    end_noted (g.F.Files.disk c.args.files.now) c.args.asked c.in_ok-job.job c.run_kept.new.notes c.run_kept.result c.in_ok-job.ensures.found
    (c.run_kept.ensures.noted watched)

pub returns-clause-fault_noted : goal.returns-clause-fault_noted
returns-clause-fault_noted g c = λ asks.
    let watched = ap (λ (gate : LossGate). is_some gate.watch) c.new-gate.ensures ∙ c.watch_of.ensures ∙ asks in
    fault_noted (g.F.Files.disk c.args.files.now) c.args.asked c.in_ok-job.job c.run_kept.new.notes c.run_kept.result c.in_ok-job.ensures.found
    (c.run_kept.ensures.fault_noted watched)

pub returns-in_err-loss-clause-fault_noted : goal.returns-in_err-loss-clause-fault_noted
returns-in_err-loss-clause-fault_noted g c = λ asks. rw (is_fault _ _ c.from_residual.ensures.1, c.in_err-loss.ensures.refused.0) tt

pub returns-in_err-job-clause-fault_noted : goal.returns-in_err-job-clause-fault_noted
returns-in_err-job-clause-fault_noted g c = λ asks.
    rw (is_fault _ _ c.from_residual-in_err-job.ensures.1)
    (unopened_noted (g.F.Files.disk c.args.files.now) c.args.asked c.args.notes.now _ c.in_err-job.ensures.found)

pub returns-clause-only : goal.returns-clause-only
returns-clause-only g c =
    only_noted (g.F.Files.disk c.args.files.now) c.args.asked c.in_ok-job.job c.args.notes.now c.run_kept.new.notes c.in_ok-job.ensures.found
    c.run_kept.ensures.only
