-- Bytes that are cut into lines.
use Rattle.std.specs.Prelude.{◌≡◌, ℕ, List, [], ◌∷◌, ◌++◌}
use Rattle.session.specs.Lines.{lines_from, rest_from}

-- no line ends in these bytes
pub record HasNoLine (bytes : List ℕ) : Type 0 where
  pub none : (begun : List ℕ) → lines_from begun bytes ≡ []
  pub rest : (begun : List ℕ) → rest_from begun bytes ≡ begun ++ bytes

-- the first line that ends in these bytes ends with these ones, and the others come after it
pub record BeginsWithLine (bytes line others : List ℕ) : Type 0 where
  pub first : (begun : List ℕ) → lines_from begun bytes ≡ (begun ++ line) ∷ lines_from [] others
  pub rest : (begun : List ℕ) → rest_from begun bytes ≡ rest_from [] others
