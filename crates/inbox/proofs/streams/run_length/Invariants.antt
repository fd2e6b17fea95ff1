use Rattle.std.proofs.Common.{◌≡◌, ◌<◌, ◌+◌, ℕ, get_or}
use Rattle.std.specs.declared.cmp.Ordering.TheVariants.{Less}
use Rattle.inbox.specs.declared.letters.Letter.{Letter}
use Rattle.inbox.specs.Merging.{source_cmp}
use Rattle.inbox.proofs.streams.run_length.Given as goal

abbrev pub invariant-loop-index : goal.invariant-loop-index
invariant-loop-index l = record {
  own : (k : ℕ) (d : Letter) → k < l.index → (get_or l.letters k d).from ≡ (get_or l.letters 0 d).from;
  rising : (k : ℕ) (d : Letter) → k + 1 < l.index → source_cmp (get_or l.letters k d) (get_or l.letters (k + 1) d) ≡ Less;
}
