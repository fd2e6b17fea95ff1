use Rattle.std.proofs.Common.{◌≡◌, ℕ, pos, ◌<◌, ◌≤◌, length, get_or}
use Rattle.superstep.specs.Folds.{combined}
use Rattle.superstep.proofs.barrier_step.unite.Given as goal

abbrev pub invariant-loop-aggregator : goal.invariant-loop-aggregator
invariant-loop-aggregator l = record {
  long : length l.aggregators ≡ 8;
  done : (k : ℕ) → k < l.aggregator → get_or l.aggregators k (pos 0) ≡ combined k (get_or l.fn.aggregators k (pos 0)) (get_or l.given k (pos 0));
  kept : (k : ℕ) → l.aggregator ≤ k → get_or l.aggregators k (pos 0) ≡ get_or l.fn.aggregators k (pos 0);
}
