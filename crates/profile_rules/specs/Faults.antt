-- What an error says.
use Rattle.std.specs.Prelude.{◌≡◌, ℕ, List, Result, MatchResult}
use Rattle.wasm_ast.specs.declared.module.Module.{Module}
use Rattle.cost.specs.declared.fault.CostFault.{CostFault}
use Rattle.cost.specs.declared.fault.CostFault.TheVariants as cost
use Rattle.verified.specs.Calls.{callees}
use Rattle.verified.specs.Cycles.{AreDistinct, IsCycle, LeastFirst}
use Rattle.profile_rules.specs.declared.fault.ProfileFault.{ProfileFault}
use Rattle.profile_rules.specs.declared.fault.ProfileFault.TheVariants as fault
use Rattle.profile_rules.specs.declared.fault.ProfileRule.{ProfileRule}
use Rattle.profile_rules.specs.declared.fault.ProfileRule.TheVariants as rule
use Rattle.verified.specs.Known.{ConstantsKnown}
use Rattle.verified.specs.Profile.{ImportsHostCalls, HasCompute, NoStart, NoElements, NoIndirectCalls, NoUnreachable, NoGrowth, NothingAfterBranches, LoopsTakeItems, AddressesWithin, NoCycles, SizeWithin, asks_addresses, asks_divisors, asks_slots}

-- the module keeps this rule
abbrev pub KeepsRule : ProfileRule → Module → Type 0
KeepsRule rule.P1 m = ImportsHostCalls m
KeepsRule rule.P2 m = HasCompute m
KeepsRule rule.P3 m = NoStart m
KeepsRule rule.P4 m = NoElements m
KeepsRule rule.P5 m = NoIndirectCalls m
KeepsRule rule.P6 m = NoUnreachable m
KeepsRule rule.P7 m = NoGrowth m
KeepsRule rule.P8 m = NothingAfterBranches m
KeepsRule rule.P9 m = LoopsTakeItems m
KeepsRule rule.P10 m = AddressesWithin m × ConstantsKnown asks_addresses m
KeepsRule rule.P11 m = ConstantsKnown asks_divisors m
KeepsRule rule.P12 m = NoCycles m
KeepsRule rule.P13 m = ConstantsKnown asks_slots m
KeepsRule rule.P14 m = (compute : HasCompute m) → SizeWithin m compute.number

-- an error about this rule, other than P12: p is false, unless an allocation failed
abbrev pub Denies : ProfileRule → ProfileFault → Type 0 → Type 0
Denies rule (fault.Breaks told place) p = (told ≡ rule) × (p → ⊥)
Denies rule (fault.Cycle functions) p = ⊥
Denies rule fault.OutOfMemory p = Unit {0}

-- decides p, which is what this rule requires
abbrev pub Settles : ProfileRule → Type 0 → Result (Unit {0}) ProfileFault → Type 0
Settles rule p r = MatchResult r (λ _. p) (λ e. Denies rule e p)

-- the functions call each other in a cycle, which begins with its least number and lists none twice; `calls` lists what
-- each function calls
abbrev pub IsToldCycle : (ℕ → List ℕ) → List ℕ → Type 0
IsToldCycle calls xs = IsCycle calls xs × LeastFirst xs × AreDistinct xs

-- an error about P12: it names a cycle, unless an allocation failed
abbrev pub ShowsCycle : (ℕ → List ℕ) → ProfileFault → Type 0
ShowsCycle calls (fault.Breaks rule place) = ⊥
ShowsCycle calls (fault.Cycle functions) = IsToldCycle calls functions.items
ShowsCycle calls fault.OutOfMemory = Unit {0}

-- the error is right: the module does not keep the rule that it names
abbrev pub Refuses : Module → ProfileFault → Type 0
Refuses m (fault.Breaks rule place) = KeepsRule rule m → ⊥
Refuses m (fault.Cycle functions) = IsToldCycle (callees m) functions.items
Refuses m fault.OutOfMemory = Unit {0}

-- the error where functions have no ranks
abbrev pub cost_fault : CostFault → ProfileFault
cost_fault (cost.Cycle functions) = fault.Cycle functions
cost_fault cost.OutOfMemory = fault.OutOfMemory
