use Rattle.std.proofs.Common.{◌≡◌, ◌+◌, ◌≤◌, false, map, vec_len, vec_capacity}
use Rattle.std.specs.Vec.Iter.{into_iter_items, into_iter_len}
use Rattle.hub_ends.specs.Hub.{IsSameHub, IsTickerSettled, handed, received, staff}
use Rattle.worker_threads.specs.Threads.{AreOfGate, AreSpawned, AreSettled}
use Rattle.hub_ends.specs.Verdicts.{sends_on, told_on}
use Rattle.worker_loops.specs.inside.Epochs.{IsSteadyTicker}
use Rattle.worker_threads.specs.inside.Epochs.{AreSteady}
use Rattle.worker_threads.specs.inside.Joins.{AreJoined, AreLinked}
use Rattle.worker_threads.proofs.audit.settle_all.Given as goal

abbrev pub invariant-loop-thread : goal.invariant-loop-thread
invariant-loop-thread g l = record {
  spawned : AreSpawned l.fn.ends (vec_len l.receipts) (into_iter_items l.thread-iterator);
  all : vec_len l.receipts + into_iter_len l.thread-iterator ≡ staff l.fn.ends;
  room : staff l.fn.ends ≤ vec_capacity l.receipts;
  ticker : IsTickerSettled l.ends l.ticker;
  settled : AreSettled l.ends 0 l.receipts.items;
  linked : AreLinked (map sends_on l.verdicts.items) (vec_len l.receipts) (into_iter_items l.thread-iterator);
  lines : vec_len l.verdicts ≡ staff l.fn.ends;
  joined : AreJoined g.J.Origin.work g.J.Origin.honest (map told_on l.verdicts.items) 0 l.receipts.items;
  gate : AreOfGate l.fn.spawned.ticker.promise.loses (into_iter_items l.thread-iterator);
  ticks : l.fn.spawned.ticker.promise.loses ≡ false → IsSteadyTicker l.ticker;
  steady : l.fn.spawned.ticker.promise.loses ≡ false → AreSteady l.receipts.items;
  told : map told_on l.verdicts.items ≡ map told_on l.fn.verdicts.items;
  received : received l.ends ≡ received l.fn.ends;
  handed : handed l.ends ≡ handed l.fn.ends;
  hub : IsSameHub l.fn.ends l.ends;
}
