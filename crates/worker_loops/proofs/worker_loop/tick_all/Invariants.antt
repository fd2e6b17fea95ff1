use Rattle.std.proofs.Common.{◌≡◌, false}
use Rattle.hub_ends.specs.Passes.{IsSameTicker, ticked}
use Rattle.worker_loops.proofs.worker_loop.tick_all.Given as goal

abbrev pub invariant-loop-n : goal.invariant-loop-n
invariant-loop-n g l = record {
  same : IsSameTicker l.fn.pass l.pass;
  steady : g.G.Gate.loses l.gate ≡ false → ticked l.pass ≡ ticked l.fn.pass;
}
