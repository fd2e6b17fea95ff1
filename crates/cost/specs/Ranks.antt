-- Ranks and sizes of the functions of a module.
use Rattle.std.specs.Prelude.{◌≡◌, ℕ, ◌+◌, ◌<◌, min, List}
use Rattle.wasm_ast.specs.declared.module.Module.{Module}
use Rattle.cost.specs.declared.table.Mark.{Mark}
use Rattle.verified.specs.Calls.{Calls, callees, body_of}
use Rattle.verified.specs.Sizes.{AreSizes, max_size}
use Rattle.verified.specs.CallHeights.{height}
use Rattle.cost.specs.Marks.{rank_at, size_at}

-- the ranks, and the sizes that come with them, are those of the module's functions
pub record IsRanking (m : Module) (ranks : List Mark) : Type 0 where
  -- a callee's rank is below its caller's
  pub falls : (f g : ℕ) → Calls (callees m) f g → rank_at ranks g < rank_at ranks f
  -- a rank is no higher than it must be: it is the number of functions in the longest chain of calls from f
  pub least : (f : ℕ) → rank_at ranks f ≡ height (rank_at ranks) (body_of m f)
  pub sized : (sizes : ℕ → ℕ) → AreSizes m sizes →
      (f : ℕ) → size_at ranks f ≡ min (max_size + 1) (sizes f)
