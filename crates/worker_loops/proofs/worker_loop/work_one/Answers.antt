use Rattle.control.specs.Stamps.{task_out}
use Rattle.hub_ends.proofs.Handed.{on_ok}
use Rattle.hub_ends.specs.Passes.{handed_in}
use Rattle.hub_ends.specs.Verdicts.{heard_on}
use Rattle.worker_loops.proofs.Epochs.{steady_event}
use Rattle.worker_loops.proofs.Joins.{counted_event, counted_none}
use Rattle.worker_loops.proofs.Passing.{joins_event, joins_none}
use Rattle.worker_loops.proofs.Returning.{return_event, return_none}
use Rattle.worker_loops.proofs.worker_loop.work_one.Goals as goal

pub returns-then-lost-clause-joins : goal.returns-then-lost-clause-joins
returns-then-lost-clause-joins g c = joins_none (handed_in c.args.pass.now)

pub returns-then-lost-clause-counted : goal.returns-then-lost-clause-counted
returns-then-lost-clause-counted g c = counted_none (handed_in c.args.pass.now) (heard_on c.args.reader.now)

pub returns-then-lost-clause-returns : goal.returns-then-lost-clause-returns
returns-then-lost-clause-returns g c = return_none g.J.Origin.work g.J.Origin.honest (task_out c.args.task) (handed_in c.args.pass.now)

pub returns-in_ok-hand_in-in-Go-clause-joins : goal.returns-in_ok-hand_in-in-Go-clause-joins
returns-in_ok-hand_in-in-Go-clause-joins g c = joins_event _ _ _ c.in_ok-hand_in-in-Go.ensures.handed_in c.outcome-event.ensures.work

pub returns-in_ok-hand_in-in-Go-clause-counted : goal.returns-in_ok-hand_in-in-Go-clause-counted
returns-in_ok-hand_in-in-Go-clause-counted g c =
    counted_event _ _ _ (heard_on c.args.reader.now) c.in_ok-hand_in-in-Go.ensures.handed_in c.outcome-event.ensures.work c.outcome-event.ensures.stays

pub returns-in_ok-hand_in-in-Go-clause-returns : goal.returns-in_ok-hand_in-in-Go-clause-returns
returns-in_ok-hand_in-in-Go-clause-returns g c =
    return_event g.J.Origin.work g.J.Origin.honest (task_out c.args.task) _ _ _ c.in_ok-hand_in-in-Go.ensures.handed_in c.outcome-event.ensures.returns

pub returns-in-Lose-clause-returns : goal.returns-in-Lose-clause-returns
returns-in-Lose-clause-returns g c = on_ok _ _ c.be_lost.result c.be_lost.ensures.returns (λ lost. lost (task_out c.args.task))

pub returns-in_ok-hand_in-in-Go-clause-steady : goal.returns-in_ok-hand_in-in-Go-clause-steady
returns-in_ok-hand_in-in-Go-clause-steady g c = λ never. steady_event _ _ _ c.in_ok-hand_in-in-Go.ensures.handed_in c.outcome-event.ensures.steady

pub returns-in_ok-hand_in-in-Go-clause-same : goal.returns-in_ok-hand_in-in-Go-clause-same
returns-in_ok-hand_in-in-Go-clause-same g c = c.hand_in.ensures.same

pub returns-in_ok-hand_in-in-Go-clause-taken : goal.returns-in_ok-hand_in-in-Go-clause-taken
returns-in_ok-hand_in-in-Go-clause-taken g c = c.hand_in.ensures.taken

pub returns-in_err-hand_in-in-Go-clause-same : goal.returns-in_err-hand_in-in-Go-clause-same
returns-in_err-hand_in-in-Go-clause-same g c = c.hand_in.ensures.same

pub returns-in_err-hand_in-in-Go-clause-taken : goal.returns-in_err-hand_in-in-Go-clause-taken
returns-in_err-hand_in-in-Go-clause-taken g c = c.hand_in.ensures.taken
