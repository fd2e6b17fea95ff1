-- What the faults say.
use Rattle.std.specs.Prelude.{ℕ, List}
use Rattle.cost.specs.declared.fault.CostFault.{CostFault}
use Rattle.cost.specs.declared.fault.CostFault.TheVariants as fault
use Rattle.verified.specs.Cycles.{AreDistinct, IsCycle, LeastFirst}

-- a fault other than out of memory has a cycle of calls that starts with its least index, and lists no function twice
abbrev pub Explains : (ℕ → List ℕ) → CostFault → Type 0
Explains calls (fault.Cycle xs) = IsCycle calls xs.items × LeastFirst xs.items × AreDistinct xs.items
Explains calls fault.OutOfMemory = Unit {0}
