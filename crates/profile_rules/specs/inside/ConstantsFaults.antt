-- What an error of the pass for known constants says.
use Rattle.std.specs.Prelude.{◌≡◌, Bool, true, false, Option, Some, None, Result, MatchResult}
use Rattle.profile_rules.specs.declared.constants.fault.ConstantsFault.{ConstantsFault}
use Rattle.profile_rules.specs.declared.constants.fault.ConstantsFault.TheVariants as fault

-- a fault says that there is none, unless an allocation failed
abbrev pub NoneBut : {A : Type 0} → ConstantsFault → Option A → Type 0
NoneBut fault.OutOfMemory o = Unit {0}
NoneBut (fault.Breaks place) o = o ≡ None

-- a fault says that it is false, unless an allocation failed
abbrev pub FalseBut : ConstantsFault → Bool → Type 0
FalseBut fault.OutOfMemory b = Unit {0}
FalseBut (fault.Breaks place) b = b ≡ false

-- the result where the test is b
abbrev pub Says : Bool → Result (Unit {0}) ConstantsFault → Type 0
Says b r = MatchResult r (λ _. b ≡ true) (λ e. FalseBut e b)

-- the result where o is found
abbrev pub Finds : {A : Type 0} → Option A → Result (Unit {0}) ConstantsFault → A → Type 0
Finds o r s = MatchResult r (λ _. o ≡ Some s) (λ e. NoneBut e o)

-- a fault says that p is false, unless an allocation failed
abbrev pub DeniesConstants : ConstantsFault → Type 0 → Type 0
DeniesConstants fault.OutOfMemory p = Unit {0}
DeniesConstants (fault.Breaks place) p = p → ⊥

-- decides p
abbrev pub SettlesConstants : Type 0 → Result (Unit {0}) ConstantsFault → Type 0
SettlesConstants p r = MatchResult r (λ _. p) (λ e. DeniesConstants e p)
