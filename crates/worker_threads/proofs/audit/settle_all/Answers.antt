use Rattle.std.proofs.Common.{◌∙◌, arith, map, subst, sym, vec_len}
use Rattle.hub_ends.proofs.Handing.{hub_then}
use Rattle.hub_ends.specs.Verdicts.{sends_on}
use Rattle.worker_threads.specs.Threads.{AreOfGate, AreSpawned}
use Rattle.worker_threads.specs.inside.Joins.{AreLinked}
use Rattle.worker_threads.proofs.SpawnedThreads.{ticker_same}
use Rattle.worker_threads.proofs.audit.settle_all.Goals as goal

pub returns-in_err-settle_one-clause-told : goal.returns-in_err-settle_one-clause-told
returns-in_err-settle_one-clause-told g c = c.settle_one.ensures.told ∙ c.loop-thread.invariant.told

pub returns-in_err-settle_one-clause-received : goal.returns-in_err-settle_one-clause-received
returns-in_err-settle_one-clause-received g c = c.settle_one.ensures.received ∙ c.loop-thread.invariant.received

pub returns-in_err-settle_one-clause-handed : goal.returns-in_err-settle_one-clause-handed
returns-in_err-settle_one-clause-handed g c = c.settle_one.ensures.handed ∙ c.loop-thread.invariant.handed

pub returns-in_err-settle_one-clause-hub : goal.returns-in_err-settle_one-clause-hub
returns-in_err-settle_one-clause-hub g c = hub_then c.loop-thread.invariant.hub c.settle_one.ensures.hub

pub loop-thread-preserved : goal.loop-thread-preserved
loop-thread-preserved g c =
    let so_far = c.loop-thread.invariant in
    let all = c.settle_one.ensures in
    let one = c.in_ok-settle_one.ensures in
    let next = c.in-Some.ensures.steps in
    let ends = c.args.ends.now in
    let joined = vec_len c.loop-thread.receipts in
    let rest = c.next.new.self.rest.items in
    let spawned = subst (AreSpawned ends joined) next.0 so_far.spawned in
    let linked = subst (AreLinked (map sends_on c.loop-thread.verdicts.items) joined) next.0 so_far.linked in
    let gate = subst (AreOfGate c.args.spawned.ticker.promise.loses) next.0 so_far.gate in
    record {
      spawned = subst (λ n. AreSpawned ends n rest) (sym one.len) spawned.1;
      all = omega (arith, one.len, next.1, so_far.all);
      room = omega (arith, one.room, so_far.room);
      ticker = ticker_same c.loop-thread.ends c.settle_one.new.ends _ all.received all.hub.channels so_far.ticker;
      settled = one.settled;
      linked = subst (λ lines. AreLinked lines (vec_len c.settle_one.new.receipts) rest) (sym all.linked) (subst (λ n. AreLinked (map sends_on c.loop-thread.verdicts.items) n rest) (sym one.len) linked.1);
      lines = all.lines ∙ so_far.lines;
      joined = one.joined;
      gate = gate.1;
      ticks = so_far.ticks;
      steady = λ e. one.steady (gate.0 ∙ e) (so_far.steady e);
      told = all.told ∙ so_far.told;
      received = all.received ∙ so_far.received;
      handed = all.handed ∙ so_far.handed;
      hub = hub_then so_far.hub all.hub;
    }

pub settle_one-requires-clause-line : goal.settle_one-requires-clause-line
settle_one-requires-clause-line g c =
    let joined = vec_len c.loop-thread.receipts in
    let linked = subst (AreLinked (map sends_on c.loop-thread.verdicts.items) joined) c.in-Some.ensures.steps.0 c.loop-thread.invariant.linked in
    linked.0

pub settle_one-requires-clause-spawned : goal.settle_one-requires-clause-spawned
settle_one-requires-clause-spawned g c =
    let so_far = c.loop-thread.invariant in
    let spawned = subst (AreSpawned c.args.ends.now (vec_len c.loop-thread.receipts)) c.in-Some.ensures.steps.0 so_far.spawned in
    record { worker = spawned.0.worker; hub = spawned.0.hub ∙ sym so_far.hub.channels }

pub returns-clause-settled : goal.returns-clause-settled
returns-clause-settled g c =
    let joined = c.loop-thread.invariant in
    record {
      ticker = joined.ticker;
      workers = joined.settled;
      all = omega (arith, joined.all, c.in-None.ensures.steps.0, joined.hub.workers);
    }

pub returns-clause-steady : goal.returns-clause-steady
returns-clause-steady g c = λ never. record { ticker = c.loop-thread.invariant.ticks never; workers = c.loop-thread.invariant.steady never }

pub returns-clause-joined : goal.returns-clause-joined
returns-clause-joined g c = c.loop-thread.invariant.joined

pub returns-clause-told : goal.returns-clause-told
returns-clause-told g c = c.loop-thread.invariant.told

pub returns-clause-received : goal.returns-clause-received
returns-clause-received g c = c.loop-thread.invariant.received

pub returns-clause-handed : goal.returns-clause-handed
returns-clause-handed g c = c.loop-thread.invariant.handed

pub returns-clause-hub : goal.returns-clause-hub
returns-clause-hub g c = c.loop-thread.invariant.hub
