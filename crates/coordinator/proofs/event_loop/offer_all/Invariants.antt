use Rattle.std.proofs.Common.{◌≡◌}
use Rattle.hub_ends.specs.Hub.{IsSameHub, handed, received, staff}
use Rattle.coordinator.specs.Steps.{Steps}
use Rattle.coordinator.proofs.event_loop.offer_all.Given as goal

abbrev pub invariant-loop-worker : goal.invariant-loop-worker
invariant-loop-worker g l = record {
  steps : Steps g.J.Origin.work g.J.Origin.honest l.initial.book l.book (received l.initial.ends) (received l.ends) (handed l.initial.ends) (handed l.ends);
  received : received l.ends ≡ received l.initial.ends;
  saved : l.book.saved ≡ l.initial.book.saved;
  hub : IsSameHub l.initial.ends l.ends;
  all : l.workers ≡ staff l.initial.ends;
}
