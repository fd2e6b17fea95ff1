use Rattle.std.proofs.Common.{◌≡◌, ◌<◌, ℕ}
use Rattle.cost.specs.declared.table.Mark.TheVariants.{Open}
use Rattle.cost.specs.Marks.{mark_at}
use Rattle.cost.specs.inside.Walks.{IsDone, Settled}
use Rattle.cost.proofs.order.rank_all.Given as goal

abbrev pub invariant-loop-function : goal.invariant-loop-function
invariant-loop-function l =
    record {
      settled : Settled l.outlines l.ranks;
      none_open : (g : ℕ) → mark_at l.ranks g ≡ Open → ⊥;
      done : (f : ℕ) → f < l.function → IsDone (mark_at l.ranks f);
    }
