-- A job that a session holds.
use Rattle.std.specs.Prelude.{◌≡◌}
use Rattle.superstep.specs.Job.{Work}
use Rattle.superstep.specs.Ending.{IsEndOf}
use Rattle.book.specs.declared.report.Report.{Report}
use Rattle.session.specs.declared.run_state.RunState.{RunState}
use Rattle.session.specs.declared.run_state.RunState.TheVariants as state

-- if the job ended, then as the plain run on one machine does
abbrev pub IsSound : Work → RunState → Type 0
IsSound work end = (report : Report) → end ≡ state.Ended report → IsEndOf work report.ended
