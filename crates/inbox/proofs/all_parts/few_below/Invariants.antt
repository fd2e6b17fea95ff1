use Rattle.std.proofs.Common.{◌≡◌, ◌<◌, ℕ, pos, true, get_or}
use Rattle.std.specs.Prelude.{int_lt}
use Rattle.inbox.specs.declared.letters.Letter.{Letter}
use Rattle.inbox.proofs.all_parts.few_below.Given as goal

abbrev pub invariant-loop-index : goal.invariant-loop-index
invariant-loop-index l = (k : ℕ) (d : Letter) → k < l.index → int_lt (get_or l.letters k d).to (pos l.id) ≡ true
