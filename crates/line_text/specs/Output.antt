-- The bytes that a writer took.
use Rattle.std.specs.Prelude.{ℕ, ◌<◌, ◌≤◌, List, length, take, Option}
use Rattle.std.specs.Io.KnownBytes.{Appends}

-- the first `count` bytes were written, at least one where there are any
pub record HasTaken (old new : Option (List ℕ)) (bytes : List ℕ) (count : ℕ) : Type 0 where
  pub within : count ≤ length bytes
  pub more : 0 < length bytes → 0 < count
  pub appends : Appends old new (take count bytes)

-- a prefix of the bytes was written, which may be none or all of them
pub record HasBegun (old new : Option (List ℕ)) (bytes : List ℕ) : Type 0 where
  pub count : ℕ
  pub appends : Appends old new (take count bytes)
