-- When no number of at most `most` bytes starts at a position (Core 1.0, 5.2.2): three cases, of which at most one holds.
use Rattle.std.specs.Prelude.{◌≡◌, ℕ, ◌-◌, ◌/◌, ◌%◌, ◌^◌, ◌<◌, ◌≤◌, List, length, take, slice_index, All}

-- The bytes end within the number: there are too few, and each of them says that another follows.
pub record IsCutShort (most : ℕ) (bytes : List ℕ) : Type 0 where
  pub few : length bytes < most
  pub unfinished : All (λ b. 128 ≤ b) bytes

-- The number goes on past the most bytes that it may have.
pub record IsTooLong (most : ℕ) (bytes : List ℕ) : Type 0 where
  pub enough : most ≤ length bytes
  pub unfinished : All (λ b. 128 ≤ b) (take most bytes)

-- bit i of a byte, where bit 0 is the lowest
abbrev pub bit_of : ℕ → ℕ → ℕ
bit_of byte i = byte / 2 ^ i % 2

-- the bits from `first` to bit 6 are 0, as those past the width of an unsigned number must be
abbrev pub AreZeros : ℕ → ℕ → Type 0
AreZeros first byte = (i : ℕ) → first ≤ i → i < 7 → bit_of byte i ≡ 0

-- the bits from `first` to bit 6 repeat the bit below them, the sign, as those past the width of a signed number must
abbrev pub AreSigns : ℕ → ℕ → Type 0
AreSigns first byte = (i : ℕ) → first ≤ i → i < 7 → bit_of byte i ≡ bit_of byte (first - 1)

-- The number ends with the last byte that it may have, the one at index `last`. The bits of that byte past the width are
-- not as they must be.
pub record HasUnusedBits (last : ℕ) (AreAllowed : ℕ → Type 0) (bytes : List ℕ) : Type 0 where
  pub inside : last < length bytes
  pub unfinished : All (λ b. 128 ≤ b) (take last bytes)
  pub ends : slice_index bytes last < 128
  pub unused : AreAllowed (slice_index bytes last) → ⊥
