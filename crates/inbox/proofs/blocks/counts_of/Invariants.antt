use Rattle.std.proofs.Common.{◌≡◌, length}
use Rattle.inbox.proofs.blocks.counts_of.Given as goal

abbrev pub invariant-loop-index : goal.invariant-loop-index
invariant-loop-index l = length l.counts.items ≡ l.count
