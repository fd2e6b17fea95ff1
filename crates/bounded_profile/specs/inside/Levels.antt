-- How far the table of heights is set.
use Rattle.std.specs.Prelude.{◌≡◌, ℕ, ◌<◌, ◌≤◌, List}
use Rattle.wasm_ast.specs.declared.module.Module.{Module}
use Rattle.cost.specs.declared.table.Mark.{Mark}
use Rattle.cost.specs.Marks.{rank_at}
use Rattle.verified.specs.Sizes.{AreSizes, max_size}
use Rattle.profile_rules.specs.inside.StackHeights.{height_at}
use Rattle.verified.specs.Heights.{AreHeights}

-- the table has the heights of the functions of lower ranks, and of those of this rank with numbers below `next`; of
-- functions that are too large it says nothing
abbrev pub AreToldBelow : Module → List Mark → List ℕ → ℕ → ℕ → Type 0
AreToldBelow m ranks told rank next =
    (heights sizes : ℕ → ℕ) → AreHeights m heights → AreSizes m sizes →
    (f : ℕ) → rank_at ranks f ≤ rank → (rank_at ranks f ≡ rank → f < next) → sizes f ≤ max_size → height_at told f ≡ heights f

-- the table has the heights of the functions up to this rank
abbrev pub AreTold : Module → List Mark → List ℕ → ℕ → Type 0
AreTold m ranks told rank =
    (heights sizes : ℕ → ℕ) → AreHeights m heights → AreSizes m sizes →
    (f : ℕ) → rank_at ranks f ≤ rank → sizes f ≤ max_size → height_at told f ≡ heights f
