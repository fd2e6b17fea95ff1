use Rattle.std.proofs.Common.{◌≡◌, ap, is_some, true, refl, sym, subst, IfOk}
use Rattle.std.proofs.lemmas.Result.{IfErr-weaker, IfOk-weaker}
use Rattle.superstep.specs.Ending.{IsEndOf}
use Rattle.superstep.specs.Tasks.{trusts}
use Rattle.superstep.proofs.Trusting.{trusts_sure}
use Rattle.plain_commands.specs.Notes.{HasNoted}
use Rattle.run_command.proofs.JobLines.{answer_printed, fault_noted, fault_of_run, lines_end, lines_report}
use Rattle.run_command.proofs.jobs.run.Goals as goal

pub returns-clause-told : goal.returns-clause-told
returns-clause-told g c = IfOk-weaker c.end_run.result _ _ (λ text told. lines_end c.run_in_threads-answer.result c.args.tells_units _ told) c.end_run.ensures.told

pub returns-clause-answered : goal.returns-clause-answered
returns-clause-answered g c = λ sure. IfOk-weaker c.end_run.result _ _ (λ text told.
    let job = c.args.job.now in
    let honest = g.K.Keep.honest c.args.keep in
    let r = lines_report c.run_in_threads-answer.result c.args.tells_units _ told in
    let trusted = trusts_sure honest r.0.epoch sure in
    let ends = subst (λ a. IfOk a (λ report. trusts honest report.epoch ≡ true → IsEndOf job report.ended)) r.1 c.run_in_threads-answer.ensures.answer in
    let since = subst (λ a. IfOk a (λ report. trusts honest report.epoch ≡ true → report.ended.since ≡ 0)) r.1 c.run_in_threads-answer.ensures.since in
    answer_printed job c.args.tells_units r.0.ended _ (ends trusted) (since trusted) r.2)
    c.end_run.ensures.told

pub returns-clause-unloaded : goal.returns-clause-unloaded
returns-clause-unloaded g c = IfOk-weaker c.end_run.result _ _ (λ text told.
    let job = c.args.job.now in
    let honest = g.K.Keep.honest c.args.keep in
    let r = lines_report c.run_in_threads-answer.result c.args.tells_units _ told in
    let ends = subst (λ a. IfOk a (λ report. trusts honest report.epoch ≡ true → IsEndOf job report.ended)) r.1 c.run_in_threads-answer.ensures.answer in
    let since = subst (λ a. IfOk a (λ report. trusts honest report.epoch ≡ true → report.ended.since ≡ 0)) r.1 c.run_in_threads-answer.ensures.since in
    record {
      report = r.0;
      printed = r.2;
      answer = λ first.
          let trusted = subst (λ n. trusts honest n ≡ true) (sym first) refl in
          answer_printed job c.args.tells_units r.0.ended _ (ends trusted) (since trusted) r.2;
    })
    c.end_run.ensures.told

pub returns-clause-unlost : goal.returns-clause-unlost
returns-clause-unlost g c = λ none. IfOk-weaker c.end_run.result _ _ (λ text told.
    let job = c.args.job.now in
    let honest = g.K.Keep.honest c.args.keep in
    let r = lines_report c.run_in_threads-answer.result c.args.tells_units _ told in
    let ends = subst (λ a. IfOk a (λ report. trusts honest report.epoch ≡ true → IsEndOf job report.ended)) r.1 c.run_in_threads-answer.ensures.answer in
    let since = subst (λ a. IfOk a (λ report. trusts honest report.epoch ≡ true → report.ended.since ≡ 0)) r.1 c.run_in_threads-answer.ensures.since in
    let first = subst (λ a. IfOk a (λ report. report.epoch ≡ 0)) r.1 (c.run_in_threads-answer.ensures.epoch (ap is_some none)) in
    let trusted = subst (λ n. trusts honest n ≡ true) (sym first) refl in
    answer_printed job c.args.tells_units r.0.ended _ (ends trusted) (since trusted) r.2)
    c.end_run.ensures.told

pub returns-clause-noted : goal.returns-clause-noted
returns-clause-noted g c = λ watched. IfOk-weaker c.end_run.result _ _ (λ text told.
    let r = lines_report c.run_in_threads-answer.result c.args.tells_units _ told in
    (r.0, r.2, subst (λ a. HasNoted c.args.job.now a c.end_run.new.notes) r.1 (c.end_run.ensures.noted watched)))
    c.end_run.ensures.told

pub returns-clause-fault_noted : goal.returns-clause-fault_noted
returns-clause-fault_noted g c = λ watched. IfErr-weaker c.end_run.result _ _ (λ told is. fault_noted c.args.job.now c.end_run.new.notes c.run_in_threads-answer.result told (c.end_run.ensures.noted watched) is)
    c.end_run.ensures.refused

pub returns-clause-refused : goal.returns-clause-refused
returns-clause-refused g c = IfErr-weaker c.end_run.result _ _ (λ told is. fault_of_run c.run_in_threads-answer.result told c.run_in_threads-answer.ensures.refused is) c.end_run.ensures.refused
