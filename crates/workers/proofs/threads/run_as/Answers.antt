use Rattle.workers.proofs.RunAnswers.{answer_told, kept_told, since_told}
use Rattle.workers.proofs.threads.run_as.Goals as goal

pub returns-clause-answer : goal.returns-clause-answer
returns-clause-answer g c =
    answer_told g.J.Origin.work g.J.Origin.honest _ _ c.run_job-answer.result c.run_job-answer.ensures.ran

pub returns-clause-since : goal.returns-clause-since
returns-clause-since g c =
    since_told g.J.Origin.work g.J.Origin.honest _ _ c.run_job-answer.result c.run_job-answer.ensures.ran

pub returns-clause-kept : goal.returns-clause-kept
returns-clause-kept g c =
    kept_told g.K.Keep.honest g.K.Keep.saved g.K.Keep.may_load g.K.Keep.faults g.J.Origin.work g.J.Origin.honest _ _ c.args.keep c.run_job-answer.result c.run_job-answer.ensures.kept c.run_job-answer.ensures.joins

pub returns-clause-calm : goal.returns-clause-calm
returns-clause-calm g c = c.run_job-answer.ensures.calm

pub returns-clause-epoch : goal.returns-clause-epoch
returns-clause-epoch g c = c.run_job-answer.ensures.epoch

pub returns-clause-refused : goal.returns-clause-refused
returns-clause-refused g c = c.run_job-answer.ensures.refused
