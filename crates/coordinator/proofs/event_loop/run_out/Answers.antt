use Rattle.book.proofs.Keeps.{keeps_same}
use Rattle.std.proofs.Common.{map, true≢false, refl, sym, ◌∙◌}
use Rattle.std.proofs.lemmas.Bool.{false≢true}
use Rattle.std.proofs.lemmas.Result.{IfOk-from_err}
use Rattle.hub_ends.specs.Hub.{handed, received}
use Rattle.hub_ends.proofs.Handing.{hub_same, hub_then}
use Rattle.hub_ends.specs.Verdicts.{told_on}
use Rattle.coordinator.proofs.Moving.{left_by, over_hands, over_then, told_next, told_none, told_still}
use Rattle.coordinator.proofs.Over.{over_still}
use Rattle.coordinator.proofs.event_loop.run_out.Goals as goal

pub loop-init : goal.loop-init
loop-init g c =
    let s = c.args.ends.now in
    record {
      steps = told_none g.K.Keep.honest g.K.Keep.saved g.K.Keep.may_load g.K.Keep.faults g.J.Origin.work g.J.Origin.honest c.args.book.now (received s) (handed s) c.args.keep.now (map told_on c.args.verdicts.now.items) c.requires.untold;
      keep = c.requires.keep;
      over = λ e. absurd (true≢false (sym e));
      linked = refl;
      lines = refl;
      hub = hub_same s;
    }

pub take_one-requires-clause-keep : goal.take_one-requires-clause-keep
take_one-requires-clause-keep g c κs within =
    let k = c.loop.keep in
    keeps_same g.J.Origin.work g.J.Origin.honest (g.K.Keep.honest k) (g.K.Keep.saved k) (g.K.Keep.may_load k) c.loop.book c.offer_or_stop.new.book c.offer_or_stop.ensures.saved c.loop.invariant.keep

pub loop-preserved : goal.loop-preserved
loop-preserved g c =
    let i = c.loop.invariant in
    let o = c.in_ok-offer_or_stop.ensures in
    let t = c.in_ok-taken.ensures in
    record {
      steps = told_next g.K.Keep.honest g.K.Keep.saved g.K.Keep.may_load g.K.Keep.faults g.J.Origin.work g.J.Origin.honest (map told_on c.loop.verdicts.items) (map told_on c.tell_due.new.verdicts.items) c.in_ok-taken.taken.due i.steps o.steps c.offer_or_stop.ensures.received i.keep t.steps c.in_ok-tell_due.ensures.told;
      keep = t.keep;
      over = λ e. over_still g.J.Origin.work g.J.Origin.honest t.steps.over.steps t.handed t.hub (o.stopped e);
      linked = c.tell_due.ensures.linked ∙ i.linked;
      lines = c.tell_due.ensures.lines ∙ i.lines;
      hub = hub_then i.hub (hub_then c.offer_or_stop.ensures.hub t.hub);
    }

pub returns-then-all_gone-clause-steps : goal.returns-then-all_gone-clause-steps
returns-then-all_gone-clause-steps g c =
    let i = c.loop.invariant in
    told_still g.K.Keep.honest g.K.Keep.saved g.K.Keep.may_load g.K.Keep.faults g.J.Origin.work g.J.Origin.honest (map told_on c.loop.verdicts.items) i.steps c.in_ok-offer_or_stop.ensures.steps c.offer_or_stop.ensures.received i.keep

pub returns-then-all_gone-clause-keep : goal.returns-then-all_gone-clause-keep
returns-then-all_gone-clause-keep g c =
    let k = c.loop.keep in
    keeps_same g.J.Origin.work g.J.Origin.honest (g.K.Keep.honest k) (g.K.Keep.saved k) (g.K.Keep.may_load k) c.loop.book c.offer_or_stop.new.book c.offer_or_stop.ensures.saved c.loop.invariant.keep

pub returns-then-all_gone-clause-left : goal.returns-then-all_gone-clause-left
returns-then-all_gone-clause-left g c = left_by g.K.Keep.honest g.K.Keep.saved g.K.Keep.may_load g.K.Keep.faults g.J.Origin.work g.J.Origin.honest _ c.loop.keep c.loop.invariant.steps.over c.loop.invariant.keep c.offer_or_stop.ensures.received refl

pub returns-in_err-offer_or_stop-clause-left : goal.returns-in_err-offer_or_stop-clause-left
returns-in_err-offer_or_stop-clause-left g c = left_by g.K.Keep.honest g.K.Keep.saved g.K.Keep.may_load g.K.Keep.faults g.J.Origin.work g.J.Origin.honest _ c.loop.keep c.loop.invariant.steps.over c.loop.invariant.keep c.offer_or_stop.ensures.received refl

pub returns-in_err-taken-clause-left : goal.returns-in_err-taken-clause-left
returns-in_err-taken-clause-left g c =
    let e = c.in_err-taken.ensures.err in
    left_by g.K.Keep.honest g.K.Keep.saved g.K.Keep.may_load g.K.Keep.faults g.J.Origin.work g.J.Origin.honest _ _ c.loop.invariant.steps.over c.loop.invariant.keep (e.0 ∙ c.offer_or_stop.ensures.received) e.1

pub returns-in_err-tell_due-clause-left : goal.returns-in_err-tell_due-clause-left
returns-in_err-tell_due-clause-left g c =
    let i = c.loop.invariant in
    let t = c.in_ok-taken.ensures in
    left_by g.K.Keep.honest g.K.Keep.saved g.K.Keep.may_load g.K.Keep.faults g.J.Origin.work g.J.Origin.honest _ _
    (over_then g.K.Keep.honest g.K.Keep.saved g.K.Keep.may_load g.K.Keep.faults g.J.Origin.work g.J.Origin.honest i.steps.over
    (over_then g.K.Keep.honest g.K.Keep.saved g.K.Keep.may_load g.K.Keep.faults g.J.Origin.work g.J.Origin.honest
    (over_hands g.K.Keep.honest g.K.Keep.saved g.K.Keep.may_load g.K.Keep.faults g.J.Origin.work g.J.Origin.honest c.loop.keep c.in_ok-offer_or_stop.ensures.steps c.offer_or_stop.ensures.received i.keep) t.steps.over))
    t.keep refl refl

pub returns-then-all_gone-clause-linked : goal.returns-then-all_gone-clause-linked
returns-then-all_gone-clause-linked g c = c.loop.invariant.linked

pub returns-then-all_gone-clause-lines : goal.returns-then-all_gone-clause-lines
returns-then-all_gone-clause-lines g c = c.loop.invariant.lines

pub returns-then-all_gone-clause-hub : goal.returns-then-all_gone-clause-hub
returns-then-all_gone-clause-hub g c = hub_then c.loop.invariant.hub c.offer_or_stop.ensures.hub

pub returns-in_err-offer_or_stop-clause-linked : goal.returns-in_err-offer_or_stop-clause-linked
returns-in_err-offer_or_stop-clause-linked g c = c.loop.invariant.linked

pub returns-in_err-offer_or_stop-clause-lines : goal.returns-in_err-offer_or_stop-clause-lines
returns-in_err-offer_or_stop-clause-lines g c = c.loop.invariant.lines

pub returns-in_err-offer_or_stop-clause-hub : goal.returns-in_err-offer_or_stop-clause-hub
returns-in_err-offer_or_stop-clause-hub g c = hub_then c.loop.invariant.hub c.offer_or_stop.ensures.hub

pub returns-in_err-taken-clause-linked : goal.returns-in_err-taken-clause-linked
returns-in_err-taken-clause-linked g c = c.loop.invariant.linked

pub returns-in_err-taken-clause-lines : goal.returns-in_err-taken-clause-lines
returns-in_err-taken-clause-lines g c = c.loop.invariant.lines

pub returns-in_err-taken-clause-hub : goal.returns-in_err-taken-clause-hub
returns-in_err-taken-clause-hub g c = hub_then c.loop.invariant.hub (hub_then c.offer_or_stop.ensures.hub c.in_err-taken.ensures.hub)

pub returns-in_err-tell_due-clause-linked : goal.returns-in_err-tell_due-clause-linked
returns-in_err-tell_due-clause-linked g c = c.tell_due.ensures.linked ∙ c.loop.invariant.linked

pub returns-in_err-tell_due-clause-lines : goal.returns-in_err-tell_due-clause-lines
returns-in_err-tell_due-clause-lines g c = c.tell_due.ensures.lines ∙ c.loop.invariant.lines

pub returns-in_err-tell_due-clause-hub : goal.returns-in_err-tell_due-clause-hub
returns-in_err-tell_due-clause-hub g c = hub_then c.loop.invariant.hub (hub_then c.offer_or_stop.ensures.hub c.in_ok-taken.ensures.hub)

pub offer_or_stop-requires : goal.offer_or_stop-requires
offer_or_stop-requires g c = record { stopped = c.loop.invariant.over }

pub returns-in_err-offer_or_stop-clause-steps : goal.returns-in_err-offer_or_stop-clause-steps
returns-in_err-offer_or_stop-clause-steps g c = IfOk-from_err c.from_residual.result _ c.from_residual.ensures.0

pub returns-in_err-offer_or_stop-clause-keep : goal.returns-in_err-offer_or_stop-clause-keep
returns-in_err-offer_or_stop-clause-keep g c = IfOk-from_err c.from_residual.result _ c.from_residual.ensures.0

pub returns-in_err-offer_or_stop-clause-ended : goal.returns-in_err-offer_or_stop-clause-ended
returns-in_err-offer_or_stop-clause-ended g c = IfOk-from_err c.from_residual.result _ c.from_residual.ensures.0

pub returns-in_err-offer_or_stop-clause-byes : goal.returns-in_err-offer_or_stop-clause-byes
returns-in_err-offer_or_stop-clause-byes g c = IfOk-from_err c.from_residual.result _ c.from_residual.ensures.0

pub returns-in_err-offer_or_stop-clause-stopped : goal.returns-in_err-offer_or_stop-clause-stopped
returns-in_err-offer_or_stop-clause-stopped g c = IfOk-from_err c.from_residual.result _ c.from_residual.ensures.0

pub returns-in_err-taken-clause-steps : goal.returns-in_err-taken-clause-steps
returns-in_err-taken-clause-steps g c = IfOk-from_err c.from_residual-in_err-taken.result _ c.from_residual-in_err-taken.ensures.0

pub returns-in_err-taken-clause-keep : goal.returns-in_err-taken-clause-keep
returns-in_err-taken-clause-keep g c = IfOk-from_err c.from_residual-in_err-taken.result _ c.from_residual-in_err-taken.ensures.0

pub returns-in_err-taken-clause-ended : goal.returns-in_err-taken-clause-ended
returns-in_err-taken-clause-ended g c = IfOk-from_err c.from_residual-in_err-taken.result _ c.from_residual-in_err-taken.ensures.0

pub returns-in_err-taken-clause-byes : goal.returns-in_err-taken-clause-byes
returns-in_err-taken-clause-byes g c = IfOk-from_err c.from_residual-in_err-taken.result _ c.from_residual-in_err-taken.ensures.0

pub returns-in_err-taken-clause-stopped : goal.returns-in_err-taken-clause-stopped
returns-in_err-taken-clause-stopped g c = IfOk-from_err c.from_residual-in_err-taken.result _ c.from_residual-in_err-taken.ensures.0

pub returns-in_err-tell_due-clause-steps : goal.returns-in_err-tell_due-clause-steps
returns-in_err-tell_due-clause-steps g c = IfOk-from_err c.from_residual-in_err-tell_due.result _ c.from_residual-in_err-tell_due.ensures.0

pub returns-in_err-tell_due-clause-keep : goal.returns-in_err-tell_due-clause-keep
returns-in_err-tell_due-clause-keep g c = IfOk-from_err c.from_residual-in_err-tell_due.result _ c.from_residual-in_err-tell_due.ensures.0

pub returns-in_err-tell_due-clause-ended : goal.returns-in_err-tell_due-clause-ended
returns-in_err-tell_due-clause-ended g c = IfOk-from_err c.from_residual-in_err-tell_due.result _ c.from_residual-in_err-tell_due.ensures.0

pub returns-in_err-tell_due-clause-byes : goal.returns-in_err-tell_due-clause-byes
returns-in_err-tell_due-clause-byes g c = IfOk-from_err c.from_residual-in_err-tell_due.result _ c.from_residual-in_err-tell_due.ensures.0

pub returns-in_err-tell_due-clause-stopped : goal.returns-in_err-tell_due-clause-stopped
returns-in_err-tell_due-clause-stopped g c = IfOk-from_err c.from_residual-in_err-tell_due.result _ c.from_residual-in_err-tell_due.ensures.0

pub returns-then-all_gone-clause-ended : goal.returns-then-all_gone-clause-ended
returns-then-all_gone-clause-ended g c = (c.in_ok-offer_or_stop.ensures.stopped c.if-stopped.true).ended

pub returns-then-all_gone-clause-byes : goal.returns-then-all_gone-clause-byes
returns-then-all_gone-clause-byes g c = c.all_gone.ensures c.if-all_gone.true

pub returns-then-all_gone-clause-stopped : goal.returns-then-all_gone-clause-stopped
returns-then-all_gone-clause-stopped g c = (c.in_ok-offer_or_stop.ensures.stopped c.if-stopped.true).stopped

pub unreachable-requires : goal.unreachable-requires
unreachable-requires g c = false≢true c.in-None.ensures.steps
