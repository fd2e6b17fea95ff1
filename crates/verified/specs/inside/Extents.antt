-- Extents of adjacent bytes, in order, and how many of their bytes are below a given byte.
use Rattle.std.specs.Prelude.{◌≡◌, ℕ, ◌+◌, ◌-◌, ◌<◌, ◌≤◌, min, List, [], ◌∷◌, length, get_or}
use Rattle.wasm_ast.specs.declared.module.Module.{Module}
use Rattle.verified.specs.declared.extents.Extent.{Extent}
use Rattle.verified.specs.Reached.{reached_below}

-- the number of bytes of the extent below this byte
abbrev pub in_extent : Extent → ℕ → ℕ
in_extent s byte = min byte s.to - min byte s.from

abbrev pub in_extents : List Extent → ℕ → ℕ
in_extents [] byte = 0
in_extents (s ∷ ss) byte = in_extent s byte + in_extents ss byte

-- the extents are in order, from `low` on; `below` of each is the number of bytes in those before it, and `below` at
-- first
abbrev pub AreInOrder : ℕ → ℕ → List Extent → Type 0
AreInOrder low below [] = Unit {0}
AreInOrder low below (s ∷ ss) =
    (low ≤ s.from) × (s.from ≤ s.to) × (s.below ≡ below) × AreInOrder s.to (below + (s.to - s.from)) ss

-- the extents have the number of reached bytes below each byte
pub record TellReached (m : Module) (extents : List Extent) : Type 0 where
  pub order : AreInOrder 0 0 extents
  pub count : (byte : ℕ) → in_extents extents byte ≡ reached_below m byte

-- `count` extents begin at the byte or before it, and the others after it
pub record PartsAt (extents : List Extent) (byte count : ℕ) : Type 0 where
  pub bound : count ≤ length extents
  pub before : (k : ℕ) (d : Extent) → k < count → (get_or extents k d).from ≤ byte
  pub behind : (k : ℕ) (d : Extent) → count ≤ k → k < length extents → byte < (get_or extents k d).from
