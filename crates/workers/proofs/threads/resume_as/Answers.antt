use Rattle.std.proofs.Common.{◌≡◌, ℕ, Bool, true, sym, subst}
use Rattle.workers.proofs.RunAnswers.{answer_told_on, kept_told_on, since_told_on}
use Rattle.workers.proofs.threads.resume_as.Goals as goal

pub returns-clause-answer : goal.returns-clause-answer
returns-clause-answer g c = λ sure.
    answer_told_on g.J.Origin.work g.J.Origin.honest _ _ c.args.superstep c.resume_job-answer.result c.resume_job-answer.ensures.ran
    (λ epoch. subst (λ (honest : ℕ → Bool). honest epoch ≡ true) (sym c.requires.honest) sure)

pub returns-clause-since : goal.returns-clause-since
returns-clause-since g c = λ sure.
    since_told_on g.J.Origin.work g.J.Origin.honest _ _ c.args.superstep c.resume_job-answer.result c.resume_job-answer.ensures.ran
    (λ epoch. subst (λ (honest : ℕ → Bool). honest epoch ≡ true) (sym c.requires.honest) sure)

pub returns-clause-kept : goal.returns-clause-kept
returns-clause-kept g c =
    kept_told_on g.K.Keep.honest g.K.Keep.saved g.K.Keep.may_load g.K.Keep.faults g.J.Origin.work g.J.Origin.honest _ _ c.args.keep c.resume_job-answer.result c.args.superstep c.resume_job-answer.ensures.kept c.resume_job-answer.ensures.joins

pub returns-clause-calm : goal.returns-clause-calm
returns-clause-calm g c = c.resume_job-answer.ensures.calm

pub returns-clause-refused : goal.returns-clause-refused
returns-clause-refused g c = c.resume_job-answer.ensures.refused
