use Rattle.std.proofs.Common.{◌∙◌, refl, rules}
use Rattle.hub_ends.specs.Hub.{handed, received}
use Rattle.hub_ends.proofs.Handing.{hub_same, hub_then}
use Rattle.coordinator.proofs.Moving.{steps_none, steps_then}
use Rattle.coordinator.proofs.event_loop.offer_all.Goals as goal

pub loop-worker-init : goal.loop-worker-init
loop-worker-init g c =
    let s = c.args.ends.now in
    record {
      steps = steps_none g.J.Origin.work g.J.Origin.honest c.args.book.now (received s) (handed s);
      received = refl;
      saved = refl;
      hub = hub_same s;
      all = search rules;
    }

pub loop-worker-preserved : goal.loop-worker-preserved
loop-worker-preserved g c =
    let i = c.loop-worker.invariant in
    let o = c.offer_next.ensures in
    record {
      steps = steps_then g.J.Origin.work g.J.Origin.honest i.steps c.in_ok-offer_next.ensures.steps;
      received = o.received ∙ i.received;
      saved = o.saved ∙ i.saved;
      hub = hub_then i.hub o.hub;
      all = i.all;
    }

pub returns-in_err-offer_next-clause-saved : goal.returns-in_err-offer_next-clause-saved
returns-in_err-offer_next-clause-saved g c = c.offer_next.ensures.saved ∙ c.loop-worker.invariant.saved

pub returns-in_err-offer_next-clause-hub : goal.returns-in_err-offer_next-clause-hub
returns-in_err-offer_next-clause-hub g c = hub_then c.loop-worker.invariant.hub c.offer_next.ensures.hub

pub returns-in_err-offer_next-clause-received : goal.returns-in_err-offer_next-clause-received
returns-in_err-offer_next-clause-received g c = c.offer_next.ensures.received ∙ c.loop-worker.invariant.received

pub returns-clause-steps : goal.returns-clause-steps
returns-clause-steps g c = c.loop-worker.invariant.steps

pub returns-clause-received : goal.returns-clause-received
returns-clause-received g c = c.loop-worker.invariant.received

pub returns-clause-saved : goal.returns-clause-saved
returns-clause-saved g c = c.loop-worker.invariant.saved

pub returns-clause-hub : goal.returns-clause-hub
returns-clause-hub g c = c.loop-worker.invariant.hub
