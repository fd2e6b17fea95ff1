use Rattle.std.proofs.Common.{◌≡◌, ◌<◌, ℕ, OnOk}
use Rattle.hub_ends.specs.Hub.{IsSameHub, IsStopped, handed, received, staff}
use Rattle.hub_ends.specs.Orders.{at, tasks_in}
use Rattle.hub_ends.proofs.coordinator_ends.CoordinatorEnds.stop.Given as goal

abbrev pub invariant-loop-worker : goal.invariant-loop-worker
invariant-loop-worker g l = record {
  stopped : OnOk l.answer ((w : ℕ) → w < l.worker → IsStopped l.self w);
  tasks : (w : ℕ) → tasks_in (at (handed l.self) w) ≡ tasks_in (at (handed l.initial.self) w);
  received : received l.self ≡ received l.initial.self;
  hub : IsSameHub l.initial.self l.self;
  end : l.worker-end ≡ staff l.initial.self;
}
