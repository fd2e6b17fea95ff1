use Rattle.std.proofs.Common.{refl}
use Rattle.threaded_session.proofs.Threaded.{threaded_end}
use Rattle.threaded_session.proofs.in_threads.run_with_threads.Goals as goal

pub returns : goal.returns
returns g c =
    threaded_end c.args.job.now c.run_in_threads.result c.run_in_threads.ensures.answer c.run_in_threads.ensures.since
    (c.run_in_threads.ensures.calm c.a_memory_keep_loads_nothing_else.ensures (λ keep. refl)) c.run_in_threads.ensures.refused
