use Rattle.std.proofs.Common.{[], ◌∷◌, ◌++◌, ap, refl, subst, sym, ◌∙◌}
use Rattle.hub_ends.specs.Orders.{order_of}
use Rattle.hub_ends.specs.Messages.{AddsJoins}
use Rattle.hub_ends.specs.Passes.{handed_in, taken}
use Rattle.worker_loops.specs.Numbers.{stamps_in}
use Rattle.hub_ends.specs.Verdicts.{heard_on}
use Rattle.worker_loops.specs.inside.Epochs.{renews}
use Rattle.worker_loops.specs.inside.Joins.{AddsCounted}
use Rattle.worker_loops.proofs.Joins.{counted_as, counted_none, counted_then}
use Rattle.worker_loops.proofs.Passing.{joins_none, joins_then, pass_same, pass_then}
use Rattle.worker_loops.proofs.Returning.{order_stop, returns_next, returns_none, returns_stop}
use Rattle.worker_loops.proofs.worker_loop.work_until_stopped.Goals as goal

pub loop-init : goal.loop-init
loop-init g c = record {
  fits = c.requires.fits;
  same = pass_same c.args.pass.now;
  joins = joins_none (handed_in c.args.pass.now);
  counted = counted_none (handed_in c.args.pass.now) (heard_on c.args.reader.now);
  returns = returns_none g.J.Origin.work g.J.Origin.honest (taken c.args.pass.now) (handed_in c.args.pass.now);
  steady = λ never. refl;
  line = refl;
}

pub loop-preserved : goal.loop-preserved
loop-preserved g c =
    let i = c.loop.invariant in
    let w = c.in_ok-lost.ensures in
    record {
      fits = c.work_one.ensures.fits;
      same = pass_then i.same (pass_then c.take.ensures.same c.work_one.ensures.same);
      joins = joins_then i.joins (subst (λ l. AddsJoins l (handed_in c.work_one.new.pass)) c.take.ensures.handed_in w.joins);
      counted = counted_then i.counted (counted_as c.take.ensures.handed_in w.counted);
      returns = returns_next g.J.Origin.work g.J.Origin.honest c.in-Some-2.task i.returns (c.work_one.ensures.taken ∙ c.in_ok-task.ensures.taken ∙ ap (λ t. taken c.loop.pass ++ order_of t ∷ []) c.in-Some-2.is) c.take.ensures.handed_in w.returns;
      steady = λ never. w.steady never ∙ ap (λ l. renews (stamps_in l)) c.take.ensures.handed_in ∙ i.steady never;
      line = c.work_one.ensures.line ∙ i.line;
    }

pub returns-in_default-clause-returns : goal.returns-in_default-clause-returns
returns-in_default-clause-returns g c =
    returns_stop g.J.Origin.work g.J.Origin.honest c.loop.invariant.returns
    (c.in_ok-task.ensures.taken ∙ ap (λ o. taken c.loop.pass ++ o ∷ []) (order_stop c.in_ok-task.field-0 c.in_default.not-Some)) c.take.ensures.handed_in

pub returns-in_default-clause-same : goal.returns-in_default-clause-same
returns-in_default-clause-same g c = pass_then c.loop.invariant.same c.take.ensures.same

pub returns-in_default-clause-joins : goal.returns-in_default-clause-joins
returns-in_default-clause-joins g c = subst (λ l. AddsJoins (handed_in c.args.pass.now) l) (sym c.take.ensures.handed_in) c.loop.invariant.joins

pub returns-in_default-clause-counted : goal.returns-in_default-clause-counted
returns-in_default-clause-counted g c =
    subst (λ l. AddsCounted (handed_in c.args.pass.now) l (heard_on c.args.reader.now) (heard_on c.loop.reader)) (sym c.take.ensures.handed_in) c.loop.invariant.counted

pub returns-in_default-clause-steady : goal.returns-in_default-clause-steady
returns-in_default-clause-steady g c = λ never. ap (λ l. renews (stamps_in l)) c.take.ensures.handed_in ∙ c.loop.invariant.steady never

pub returns-in_err-task-clause-same : goal.returns-in_err-task-clause-same
returns-in_err-task-clause-same g c = pass_then c.loop.invariant.same c.take.ensures.same

pub returns-in_err-lost-clause-same : goal.returns-in_err-lost-clause-same
returns-in_err-lost-clause-same g c = pass_then c.loop.invariant.same (pass_then c.take.ensures.same c.work_one.ensures.same)

pub returns-in_err-lost-clause-line : goal.returns-in_err-lost-clause-line
returns-in_err-lost-clause-line g c = c.work_one.ensures.line ∙ c.loop.invariant.line
