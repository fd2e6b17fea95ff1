use Rattle.std.proofs.Common.{◌≡◌, ◌<◌, ℕ, get_or}
use Rattle.inbox.specs.declared.letters.Letter.{Letter}
use Rattle.inbox.proofs.arrivals.run_length.Given as goal

abbrev pub invariant-loop-index : goal.invariant-loop-index
invariant-loop-index l = (k : ℕ) (d : Letter) → k < l.index → (get_or l.letters k d).to ≡ (get_or l.letters 0 d).to
