-- How numbers are spelled in LEB128 (Core 1.0, 5.2.2), and which spelling of a number is the shortest.
use Rattle.std.specs.Prelude.{◌≡◌, ℕ, zero, suc, ℤ, pos, negsuc, ◌+ℤ◌, ◌*ℤ◌, ◌-ℤ◌, ◌≤ℤ◌, ◌<ℤ◌, ◌+◌, ◌-◌, ◌*◌, ◌/◌, ◌%◌, ◌^◌, ◌<◌, ◌≤◌, ◌⊎◌, Bool, List, [], ◌∷◌, ◌++◌, length, drop, nat_lt, unsigned_abs, if◌then◌else◌}
use Rattle.std.specs.Int.{int_div_euclid, int_rem_euclid}

-- A spelling of the unsigned number n of this many bits. A byte below 128 that fits spells itself. A byte of 128 or more
-- has the low seven bits, and the bytes after it spell the other bits, a number of seven bits less.
abbrev pub IsUnsigned : (bits : ℕ) → List ℕ → ℕ → Type 0
IsUnsigned bits [] n = ⊥
IsUnsigned bits (b ∷ bs) n =
    ((b < 128) × (b < 2 ^ bits) × (bs ≡ []) × (n ≡ b))
    ⊎ ((128 ≤ b) × (b < 256) × (7 < bits) × (m : ℕ) × (n ≡ 128 * m + (b - 128)) × IsUnsigned (bits - 7) bs m)

-- A spelling of the signed number z of this many bits. A byte below 64 that fits spells itself, and one from 64 to 127
-- that fits spells itself minus 128. A byte of 128 or more has the low seven bits, and the bytes after it spell the other
-- bits.
abbrev pub IsSigned : (bits : ℕ) → List ℕ → ℤ → Type 0
IsSigned bits [] z = ⊥
IsSigned bits (b ∷ bs) z =
    ((b < 64) × (b < 2 ^ (bits - 1)) × (bs ≡ []) × (z ≡ pos b))
    ⊎ (((64 ≤ b) × (b < 128) × (128 ≤ b + 2 ^ (bits - 1)) × (bs ≡ []) × (z ≡ (pos b) -ℤ (pos 128)))
    ⊎ ((128 ≤ b) × (b < 256) × (7 < bits) × (m : ℤ) × (z ≡ ((m *ℤ (pos 128)) +ℤ (pos (b - 128)))) × IsSigned (bits - 7) bs m))

-- the range of the signed numbers of this many bits
pub record FitsBits (bits : ℕ) (z : ℤ) : Type 0 where
  pub low : (pos 0 -ℤ pos (2 ^ (bits - 1))) ≤ℤ z
  pub high : z <ℤ pos (2 ^ (bits - 1))

-- The bytes from `at` up to `next` are a spelling of n.
pub record IsSpelledAt {N : Type 0} (spelled : List ℕ → N → Type 0) (bytes : List ℕ) (at : ℕ) (n : N) (next : ℕ) : Type 0 where
  pub spelling : List ℕ
  pub spells : spelled spelling n
  pub stands : drop at bytes ≡ spelling ++ drop next bytes
  pub ends : next ≡ at + length spelling

-- the shortest spelling of n, where `most` bytes are enough
unfoldable pub shortest_unsigned : (most : ℕ) → ℕ → List ℕ
shortest_unsigned zero n = []
shortest_unsigned (suc more) n = if nat_lt n 128 then n ∷ [] else (n % 128 + 128) ∷ shortest_unsigned more (n / 128)

unfoldable pub u32_spelling : ℕ → List ℕ
u32_spelling n = shortest_unsigned 5 n

-- whether z is from -64 to 63
abbrev pub fits_seven_bits : ℤ → Bool
fits_seven_bits (pos n) = nat_lt n 64
fits_seven_bits (negsuc n) = nat_lt n 64

-- the seven lowest bits of z
abbrev pub low_bits : ℤ → ℕ
low_bits z = unsigned_abs (int_rem_euclid z (pos 128))

-- the bits of z above those
abbrev pub high_bits : ℤ → ℤ
high_bits z = int_div_euclid z (pos 128)

-- the shortest spelling of z, where `most` bytes are enough
unfoldable pub shortest_signed : (most : ℕ) → ℤ → List ℕ
shortest_signed zero z = []
shortest_signed (suc more) z =
    if fits_seven_bits z then low_bits z ∷ [] else (low_bits z + 128) ∷ shortest_signed more (high_bits z)

unfoldable pub s32_spelling : ℤ → List ℕ
s32_spelling z = shortest_signed 5 z

unfoldable pub s64_spelling : ℤ → List ℕ
s64_spelling z = shortest_signed 10 z
