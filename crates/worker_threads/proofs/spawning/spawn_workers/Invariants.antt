use Rattle.std.proofs.Common.{◌≡◌, ◌+◌, ◌≤◌, map, vec_len, vec_capacity}
use Rattle.std.specs.Vec.Iter.{into_iter_items, into_iter_len}
use Rattle.hub_ends.specs.Hub.{AreNewPasses, channels_of}
use Rattle.worker_threads.specs.Threads.{AreOfGate, AreSpawned}
use Rattle.hub_ends.specs.Verdicts.{AreUntold, sends_on, told_on}
use Rattle.worker_threads.specs.inside.Joins.{AreLinked}
use Rattle.worker_threads.proofs.spawning.spawn_workers.Given as goal

abbrev pub invariant-loop-pass : goal.invariant-loop-pass
invariant-loop-pass g l = record {
  rest : AreNewPasses (channels_of l.fn.ends) (vec_len l.threads) (into_iter_items l.pass-iterator);
  all : vec_len l.threads + into_iter_len l.pass-iterator ≡ vec_len l.fn.passes;
  spawned : AreSpawned l.fn.ends 0 l.threads.items;
  gate : AreOfGate (g.G.Gate.loses l.fn.gate) l.threads.items;
  room : vec_len l.threads + into_iter_len l.pass-iterator ≤ vec_capacity l.threads;
  linked : AreLinked (map sends_on l.verdicts.items) 0 l.threads.items;
  lines : vec_len l.verdicts ≡ vec_len l.threads;
  lines_room : vec_len l.verdicts + into_iter_len l.pass-iterator ≤ vec_capacity l.verdicts;
  untold : AreUntold (map told_on l.verdicts.items);
}
