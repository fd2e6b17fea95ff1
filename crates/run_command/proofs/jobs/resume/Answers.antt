use Rattle.std.proofs.Common.{◌≡◌, IfOk, subst}
use Rattle.std.proofs.lemmas.Result.{IfErr-weaker, IfOk-weaker}
use Rattle.superstep.specs.Ending.{IsEndOf, answer_of}
use Rattle.plain_commands.specs.Notes.{HasNoted}
use Rattle.run_command.proofs.JobLines.{ended_printed, fault_noted, fault_of_run, lines_end, lines_report}
use Rattle.run_command.proofs.jobs.resume.Goals as goal

pub returns-clause-told : goal.returns-clause-told
returns-clause-told g c = IfOk-weaker c.end_run.result _ _ (λ text told. lines_end c.resume_in_threads-answer.result c.args.tells_units _ told) c.end_run.ensures.told

pub returns-clause-answered : goal.returns-clause-answered
returns-clause-answered g c = λ sure. IfOk-weaker c.end_run.result _ _ (λ text told meaning.
    let r = lines_report c.resume_in_threads-answer.result c.args.tells_units _ told in
    let ended = r.0.ended in
    let ends = subst (λ a. IfOk a (λ report. IsEndOf c.args.job.now report.ended)) r.1 (c.resume_in_threads-answer.ensures.answer sure) meaning in
    let since = subst (λ a. IfOk a (λ report. report.ended.since ≡ 0)) r.1 (c.resume_in_threads-answer.ensures.since sure) in
    record {
      answer = answer_of ended;
      ends = ends.answer;
      printed = ended_printed c.args.job.now meaning c.args.tells_units ended _ since ends r.2;
    })
    c.end_run.ensures.told

pub returns-clause-noted : goal.returns-clause-noted
returns-clause-noted g c = λ watched. IfOk-weaker c.end_run.result _ _ (λ text told.
    let r = lines_report c.resume_in_threads-answer.result c.args.tells_units _ told in
    (r.0, r.2, subst (λ a. HasNoted c.args.job.now a c.end_run.new.notes) r.1 (c.end_run.ensures.noted watched)))
    c.end_run.ensures.told

pub returns-clause-fault_noted : goal.returns-clause-fault_noted
returns-clause-fault_noted g c = λ watched. IfErr-weaker c.end_run.result _ _ (λ told is. fault_noted c.args.job.now c.end_run.new.notes c.resume_in_threads-answer.result told (c.end_run.ensures.noted watched) is)
    c.end_run.ensures.refused

pub returns-clause-refused : goal.returns-clause-refused
returns-clause-refused g c = IfErr-weaker c.end_run.result _ _ (λ told is. fault_of_run c.resume_in_threads-answer.result told c.resume_in_threads-answer.ensures.refused is) c.end_run.ensures.refused
