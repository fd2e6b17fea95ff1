use Rattle.std.proofs.Common.{refl, subst, sym}
use Rattle.hub_ends.specs.Passes.{handed_in, handed_in_by}
use Rattle.worker_loops.specs.Returns.{AreReturnsOf}
use Rattle.worker_loops.specs.Numbers.{outs_in, stamps_in}
use Rattle.worker_loops.proofs.Epochs.{steady_bye}
use Rattle.worker_loops.proofs.Joins.{counted_bye}
use Rattle.worker_loops.proofs.Passing.{joins_all, joins_more, joins_then}
use Rattle.worker_loops.proofs.Returning.{returns_all}
use Rattle.worker_loops.proofs.worker_loop.work_all.Goals as goal

pub returns-in_ok-receipt-in-Ok-clause-joins : goal.returns-in_ok-receipt-in-Ok-clause-joins
returns-in_ok-receipt-in-Ok-clause-joins g c =
    let said = c.in_ok-receipt-in-Ok.ensures.handed_in in
    let receipt = c.in_ok-receipt-in-Ok.receipt in
    joins_all (handed_in c.args.pass) (handed_in_by receipt) c.requires.new
    (joins_then c.in-Ok.ensures.joins (joins_more _ (handed_in_by receipt) _ said (λ lost. refl)))

pub returns-in_ok-receipt-in-Ok-clause-counted : goal.returns-in_ok-receipt-in-Ok-clause-counted
returns-in_ok-receipt-in-Ok-clause-counted g c =
    counted_bye _ _ _ _ _ _ c.requires.new c.requires.unheard c.in-Ok.ensures.counted c.in_ok-receipt-in-Ok.ensures.handed_in

pub returns-in_ok-receipt-in-Ok-clause-returned : goal.returns-in_ok-receipt-in-Ok-clause-returned
returns-in_ok-receipt-in-Ok-clause-returned g c =
    let receipt = c.in_ok-receipt-in-Ok.receipt in
    subst (λ l. AreReturnsOf g.J.Origin.work g.J.Origin.honest (outs_in l) (stamps_in (handed_in_by receipt))) (sym c.in_ok-receipt-in-Ok.ensures.taken)
    (returns_all g.J.Origin.work g.J.Origin.honest _ _ _ _ _ _ c.requires.untaken c.requires.new c.in-Ok.ensures.returns c.in_ok-receipt-in-Ok.ensures.handed_in)

pub returns-in_ok-receipt-in-Ok-clause-steady : goal.returns-in_ok-receipt-in-Ok-clause-steady
returns-in_ok-receipt-in-Ok-clause-steady g c = λ never.
    steady_bye _ _ _ _ c.requires.new (c.in-Ok.ensures.steady never) c.in_ok-receipt-in-Ok.ensures.handed_in
