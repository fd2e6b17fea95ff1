-- What a Keep in memory loads.
use Rattle.std.proofs.Common.{◌≡◌, ℕ, List, Option, Some, None, sym, ◌∙◌}
use Rattle.std.specs.Prelude.{MatchOption, option_map}
use Rattle.checkpoint.specs.declared.memory.MemoryKeep.{MemoryKeep}
use Rattle.checkpoint.specs.declared.memory.Saved.{Saved}
use Rattle.checkpoint.specs.Keep.{LoadsNothingElse}
use Rattle.checkpoint.specs.Memory.{IsHeld, superstep_in}

one_of : (last : Option Saved) (s : ℕ) → option_map (λ (saved : Saved). saved.superstep) last ≡ Some s → (one other : List ℕ) → MatchOption last (Unit {0}) (λ saved. one ≡ saved.bytes.items) → MatchOption last (Unit {0}) (λ saved. other ≡ saved.bytes.items) → one ≡ other
one_of None s is one other first second = absurd (cc)
one_of (Some saved) s is one other first second = first ∙ sym second

pub loads_nothing_else : LoadsNothingElse superstep_in IsHeld
loads_nothing_else keep s is one other first second = one_of keep.last s is one other first second
