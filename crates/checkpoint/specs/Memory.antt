-- What a Keep in memory holds.
use Rattle.std.specs.Prelude.{◌≡◌, ℕ, List, Option, MatchOption, option_map}
use Rattle.checkpoint.specs.declared.memory.MemoryKeep.{MemoryKeep}

-- the superstep of the last good save
abbrev pub superstep_in : MemoryKeep → Option ℕ
superstep_in keep = option_map (λ saved. saved.superstep) keep.last

-- these are the bytes of the last good save
abbrev pub IsHeld : MemoryKeep → List ℕ → Type 0
IsHeld keep bytes = MatchOption keep.last (Unit {0}) (λ saved. bytes ≡ saved.bytes.items)
