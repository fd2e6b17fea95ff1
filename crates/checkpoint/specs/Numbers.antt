-- How a checkpoint spells numbers: with the lowest byte first.
use Rattle.std.specs.Prelude.{ℕ, ℤ, List}
use Rattle.std.specs.Int.{cast_unsigned, w64}
use Rattle.byteorder.specs.Endian.{little_bytes}

-- the number n in `size` bytes
unfoldable pub number : ℕ → ℕ → List ℕ
number size n = little_bytes size n

-- a signed number, as two's complement, in eight bytes
abbrev pub signed : ℤ → List ℕ
signed z = number 8 (cast_unsigned w64 z)
