use Rattle.std.proofs.Common.{◌≡◌, map, true, vec_len}
use Rattle.book.specs.Saving.{IsKeptStep, KeepsFor}
use Rattle.hub_ends.specs.Hub.{IsSameHub, handed, received}
use Rattle.hub_ends.specs.Verdicts.{sends_on, told_on}
use Rattle.coordinator.specs.inside.EventLoop.{IsOver}
use Rattle.coordinator.specs.inside.Told.{StepsTold}
use Rattle.coordinator.proofs.event_loop.run_out.Given as goal

abbrev pub invariant-loop : goal.invariant-loop
invariant-loop g l = record {
  steps : StepsTold (IsKeptStep g.K.Keep.honest g.K.Keep.saved g.K.Keep.may_load g.K.Keep.faults g.J.Origin.work g.J.Origin.honest) g.J.Origin.work g.J.Origin.honest l.fn.book l.book (received l.fn.ends) (received l.ends) (handed l.fn.ends) (handed l.ends) l.fn.keep l.keep (map told_on l.verdicts.items);
  keep : KeepsFor g.J.Origin.work g.J.Origin.honest (g.K.Keep.honest l.keep) (g.K.Keep.saved l.keep) (g.K.Keep.may_load l.keep) l.book;
  over : l.stopped ≡ true → IsOver l.book l.ends;
  linked : map sends_on l.verdicts.items ≡ map sends_on l.fn.verdicts.items;
  lines : vec_len l.verdicts ≡ vec_len l.fn.verdicts;
  hub : IsSameHub l.fn.ends l.ends;
}
