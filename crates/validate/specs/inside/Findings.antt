-- What an answer or a fault implies for the property that was checked.
use Rattle.std.specs.Prelude.{◌≡◌, Bool, true, false, Option, Some, None, Result, Ok, Err, MatchResult}
use Rattle.validate.specs.declared.fault.Place.{Place}
use Rattle.validate.specs.declared.fault.ValidFault.{ValidFault}
use Rattle.validate.specs.declared.fault.ValidFault.TheVariants as fault

-- the same fault, with this place
abbrev pub placed : ValidFault → Place → ValidFault
placed fault.OutOfMemory place = fault.OutOfMemory
placed (fault.Breaks rule at) place = fault.Breaks rule place

-- a fault other than out of memory means that there is none
abbrev pub NoneBut : {A : Type 0} → ValidFault → Option A → Type 0
NoneBut fault.OutOfMemory o = Unit {0}
NoneBut (fault.Breaks rule place) o = o ≡ None

-- a fault other than out of memory means that it is false
abbrev pub FalseBut : ValidFault → Bool → Type 0
FalseBut fault.OutOfMemory b = Unit {0}
FalseBut (fault.Breaks rule place) b = b ≡ false

-- the answer is `Ok` where b is true
abbrev pub Says : Bool → Result (Unit {0}) ValidFault → Type 0
Says b r = MatchResult r (λ _. b ≡ true) (λ e. FalseBut e b)

-- the answer is `Ok` where o has a value, which is this one
abbrev pub Finds : {A : Type 0} → Option A → Result (Unit {0}) ValidFault → A → Type 0
Finds o r s = MatchResult r (λ _. o ≡ Some s) (λ e. NoneBut e o)

-- a fault other than out of memory means that p is false
abbrev pub Denies : ValidFault → Type 0 → Type 0
Denies fault.OutOfMemory p = Unit {0}
Denies (fault.Breaks rule place) p = p → ⊥

-- the answer is `Ok` exactly where p holds, unless memory runs out
abbrev pub Settles : Type 0 → Result (Unit {0}) ValidFault → Type 0
Settles p r = MatchResult r (λ _. p) (λ e. Denies e p)

-- the answer, with this place in its fault
abbrev pub answer_at : {A : Type 0} → Result A ValidFault → Place → Result A ValidFault
answer_at (Ok a) place = Ok a
answer_at (Err e) place = Err (placed e place)

-- the answer is the value of o, where it has one
abbrev pub Gives : {A : Type 0} → Option A → Result A ValidFault → Type 0
Gives o r = MatchResult r (λ a. o ≡ Some a) (λ e. NoneBut e o)

-- the fault is not out of memory
abbrev pub IsRefusal : ValidFault → Type 0
IsRefusal fault.OutOfMemory = ⊥
IsRefusal (fault.Breaks rule place) = Unit {0}
