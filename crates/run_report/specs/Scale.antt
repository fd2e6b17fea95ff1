-- Numbers on an axis.
use Rattle.std.specs.Prelude.{◌≡◌, ◌⊎◌, ℕ, ◌*◌, ◌/◌, ◌^◌, ◌==◌, List, codes, min, if◌then◌else◌}
use Rattle.run_report.specs.declared.unit.Unit.{Unit}
use Rattle.run_report.specs.declared.unit.Unit.TheVariants as unit

-- how far along an axis a value lies; all of it is at the beginning where the end stands for 0
abbrev pub place_on : (length value top : ℕ) → ℕ
place_on length value top = if top == 0 then 0 else min (value * length / top) length

-- 1, 2 or 5 times a power of ten
pub record IsRound (number : ℕ) : Type 0 where
  pub digit : ℕ
  pub exponent : ℕ
  pub is_digit : (digit ≡ 1) ⊎ ((digit ≡ 2) ⊎ (digit ≡ 5))
  pub is : number ≡ digit * 10 ^ exponent

abbrev pub size_of : Unit → ℕ
size_of unit.One = 1
size_of unit.Kilo = 1000
size_of unit.Mega = 1000000
size_of unit.Giga = 1000000000
size_of unit.Tera = 1000000000000
size_of unit.Peta = 1000000000000000
size_of unit.Exa = 1000000000000000000

abbrev pub letter_of : Unit → List ℕ
letter_of unit.One = codes ""
letter_of unit.Kilo = codes "k"
letter_of unit.Mega = codes "M"
letter_of unit.Giga = codes "G"
letter_of unit.Tera = codes "T"
letter_of unit.Peta = codes "P"
letter_of unit.Exa = codes "E"
