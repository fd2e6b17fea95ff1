use Rattle.std.proofs.Common.{inr}
use Rattle.sources.proofs.Faults.{IfErr-along, is_fault}
use Rattle.run_command.proofs.Folders.{folder_lines, nested}
use Rattle.run_command.proofs.Noted.{unkept_noted}
use Rattle.run_command.proofs.running.run_kept.Goals as goal

pub returns-in_err-keep-in-Some-clause-refused : goal.returns-in_err-keep-in-Some-clause-refused
returns-in_err-keep-in-Some-clause-refused g c =
    rw (is_fault _ _ c.from_residual.ensures.1, c.in-Some.is) (nested c.in_err-keep-in-Some.ensures.refused)

pub returns-in_ok-keep-in-Some-clause-refused : goal.returns-in_ok-keep-in-Some-clause-refused
returns-in_ok-keep-in-Some-clause-refused g c =
    rw c.in-Some.is (IfErr-along c.run_in_folder.result (λ fault is. inr (inr is)) c.run_in_folder.ensures.refused)

pub returns-in_ok-keep-in-Some-clause-told : goal.returns-in_ok-keep-in-Some-clause-told
returns-in_ok-keep-in-Some-clause-told g c =
    rw c.in-Some.is (folder_lines c.args.job.now c.in-Some.folder c.args.gate.now.loss.loss c.args.asked.resume c.args.asked.job.tells_units c.run_in_folder.result
    c.run_in_folder.ensures.told (λ never. c.run_in_folder.ensures.unloaded (c.in_ok-keep-in-Some.ensures.fresh never))
    (λ never. c.run_in_folder.ensures.unlost (c.in_ok-keep-in-Some.ensures.fresh never)))

pub returns-in_err-keep-in-Some-clause-fault_noted : goal.returns-in_err-keep-in-Some-clause-fault_noted
returns-in_err-keep-in-Some-clause-fault_noted g c = λ watched.
    rw (is_fault _ _ c.from_residual.ensures.1)
    (unkept_noted (g.F.Files.disk c.args.files.now) c.args.asked c.in-Some.folder.now c.args.job.now c.args.notes.now _ c.in_err-keep-in-Some.ensures.refused)
