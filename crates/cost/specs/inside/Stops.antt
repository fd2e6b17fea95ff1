-- Why a walk stops.
use Rattle.std.specs.Prelude.{◌≡◌, ℕ, List, reverse}
use Rattle.std.specs.List.{AllByRecursion}
use Rattle.cost.specs.declared.cycle.Stop.{Stop}
use Rattle.cost.specs.declared.cycle.Stop.TheVariants as stop
use Rattle.cost.specs.declared.table.Mark.{Mark}
use Rattle.cost.specs.declared.table.Mark.TheVariants.{Unseen}
use Rattle.verified.specs.Cycles.{AreDistinct, Leads, IsCycle}
use Rattle.cost.specs.Marks.{mark_at}

-- the walk from f may stop with this
abbrev pub Leaves : (ℕ → List ℕ) → ℕ → Stop → Type 0
Leaves calls f (stop.Back target trail) = Leads calls f (reverse trail.items) target
Leaves calls f (stop.Cycle trail) = IsCycle calls (reverse trail.items)
Leaves calls f stop.OutOfMemory = Unit {0}

-- what is unseen was unseen before
abbrev pub IsUnseenBefore : (old new : List Mark) → Type 0
IsUnseenBefore old new = (g : ℕ) → mark_at new g ≡ Unseen → mark_at old g ≡ Unseen

-- the walk began with these marks: it came by functions that were unseen, and by none twice
abbrev pub AreFresh : List Mark → Stop → Type 0
AreFresh ms (stop.Back target trail) =
    AreDistinct trail.items × AllByRecursion (λ g. mark_at ms g ≡ Unseen) trail.items
AreFresh ms (stop.Cycle trail) = AreDistinct trail.items
AreFresh ms stop.OutOfMemory = Unit {0}

-- f is the function that the walk has come back to
abbrev pub Targets : Stop → ℕ → Type 0
Targets (stop.Back target trail) f = target ≡ f
Targets (stop.Cycle trail) f = ⊥
Targets stop.OutOfMemory f = ⊥
