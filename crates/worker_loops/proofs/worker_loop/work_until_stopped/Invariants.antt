use Rattle.std.proofs.Common.{◌≡◌, IfSome, false}
use Rattle.hub_ends.specs.Messages.{AddsJoins}
use Rattle.hub_ends.specs.Passes.{IsSamePass, handed_in, taken}
use Rattle.hub_ends.specs.Verdicts.{heard_on, reads_on}
use Rattle.worker_loops.specs.Numbers.{stamps_in}
use Rattle.worker_loops.specs.inside.Epochs.{renews}
use Rattle.worker_loops.specs.inside.Joins.{AddsCounted}
use Rattle.worker_loops.specs.inside.Returning.{AddsReturns}
use Rattle.worker_loops.proofs.worker_loop.work_until_stopped.Given as goal

abbrev pub invariant-loop : goal.invariant-loop
invariant-loop g l = record {
  fits : IfSome l.scratch (λ scratch. scratch ≡ l.job.«module»);
  same : IsSamePass l.initial.pass l.pass;
  joins : AddsJoins (handed_in l.initial.pass) (handed_in l.pass);
  counted : AddsCounted (handed_in l.initial.pass) (handed_in l.pass) (heard_on l.initial.reader) (heard_on l.reader);
  returns : AddsReturns g.J.Origin.work g.J.Origin.honest (taken l.initial.pass) (taken l.pass) (handed_in l.initial.pass) (handed_in l.pass);
  steady : g.G.Gate.loses l.gate ≡ false → renews (stamps_in (handed_in l.pass)) ≡ renews (stamps_in (handed_in l.initial.pass));
  line : reads_on l.reader ≡ reads_on l.initial.reader;
}
