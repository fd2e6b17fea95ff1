use Rattle.std.proofs.Common.{◌≡◌, true, refl}
use Rattle.worker_loops.proofs.Joins.{counted_join, counted_loss}
use Rattle.worker_loops.proofs.Passing.{joins_event, joins_pair, pass_then}
use Rattle.worker_loops.proofs.Returning.{return_joined, return_lost}
use Rattle.worker_loops.proofs.worker_loop.be_lost.Goals as goal

pub returns-then-not-again-clause-joins : goal.returns-then-not-again-clause-joins
returns-then-not-again-clause-joins g c = joins_event _ _ _ c.in_ok-hand_in.ensures.handed_in refl

pub returns-then-not-again-clause-counted : goal.returns-then-not-again-clause-counted
returns-then-not-again-clause-counted g c = counted_loss _ _ _ _ _ _ c.in_ok-hand_in.ensures.handed_in c.in_ok-counted.ensures.heard

pub returns-then-not-counted-clause-joins : goal.returns-then-not-counted-clause-joins
returns-then-not-counted-clause-joins g c = joins_event _ _ _ c.in_ok-hand_in.ensures.handed_in refl

pub returns-then-not-counted-clause-counted : goal.returns-then-not-counted-clause-counted
returns-then-not-counted-clause-counted g c = counted_loss _ _ _ _ _ _ c.in_ok-hand_in.ensures.handed_in c.in_ok-counted.ensures.heard

pub returns-clause-joins : goal.returns-clause-joins
returns-clause-joins g c = joins_pair _ _ _ _ _ c.in_ok-hand_in.ensures.handed_in c.in_ok-hand_in-2.ensures.handed_in (λ lost. refl)

pub returns-clause-counted : goal.returns-clause-counted
returns-clause-counted g c =
    let sure : c.in_ok-counted.counted ≡ true = cc in
    counted_join _ _ _ _ _ _ _ c.in_ok-hand_in.ensures.handed_in c.in_ok-hand_in-2.ensures.handed_in c.in_ok-counted.ensures.heard sure

pub returns-then-not-again-clause-returns : goal.returns-then-not-again-clause-returns
returns-then-not-again-clause-returns g c = λ task. return_lost g.J.Origin.work g.J.Origin.honest task _ _ _ c.in_ok-hand_in.ensures.handed_in

pub returns-then-not-counted-clause-returns : goal.returns-then-not-counted-clause-returns
returns-then-not-counted-clause-returns g c = λ task. return_lost g.J.Origin.work g.J.Origin.honest task _ _ _ c.in_ok-hand_in.ensures.handed_in

pub returns-clause-returns : goal.returns-clause-returns
returns-clause-returns g c = λ task. return_joined g.J.Origin.work g.J.Origin.honest task _ _ _ _ c.in_ok-hand_in.ensures.handed_in c.in_ok-hand_in-2.ensures.handed_in

pub returns-in_err-hand_in-clause-same : goal.returns-in_err-hand_in-clause-same
returns-in_err-hand_in-clause-same g c = c.hand_in.ensures.same

pub returns-in_err-counted-clause-same : goal.returns-in_err-counted-clause-same
returns-in_err-counted-clause-same g c = c.hand_in.ensures.same

pub returns-then-not-again-clause-same : goal.returns-then-not-again-clause-same
returns-then-not-again-clause-same g c = c.hand_in.ensures.same

pub returns-then-not-counted-clause-same : goal.returns-then-not-counted-clause-same
returns-then-not-counted-clause-same g c = c.hand_in.ensures.same

pub returns-in_err-hand_in-2-clause-same : goal.returns-in_err-hand_in-2-clause-same
returns-in_err-hand_in-2-clause-same g c = pass_then c.hand_in.ensures.same c.hand_in-2.ensures.same

pub returns-clause-same : goal.returns-clause-same
returns-clause-same g c = pass_then c.hand_in.ensures.same c.hand_in-2.ensures.same
