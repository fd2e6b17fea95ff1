use Rattle.threaded_session.proofs.Threaded.{plain_end}
use Rattle.threaded_session.proofs.in_threads.JobRunnerRunner.run.Goals as goal

pub returns-clause-end : goal.returns-clause-end
returns-clause-end g c = c.requires.ends c.args.job c.run_job.result c.run_job.ensures

pub returns-clause-answer : goal.returns-clause-answer
returns-clause-answer g c = plain_end c.args.job.now c.run_job.result (c.requires.ends c.args.job c.run_job.result c.run_job.ensures)
