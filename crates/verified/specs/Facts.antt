-- What is known of a module in the bounded profile besides the module.
use Rattle.std.specs.Prelude.{◌≡◌, ℕ}
use Rattle.wasm_ast.specs.declared.module.Module.{Module}
use Rattle.verified.specs.Calls.{body_of}
use Rattle.verified.specs.CallHeights.{height}
use Rattle.verified.specs.Sizes.{AreSizes}
use Rattle.verified.specs.Heights.{AreHeights}
use Rattle.verified.specs.Profile.{HasCompute}
use Rattle.verified.specs.declared.facts.Facts.{Facts}

-- the size of the function with calls inlined, in units
abbrev pub IsSizeAt : Module → ℕ → ℕ → Type 0
IsSizeAt m function size = (sizes : ℕ → ℕ) × AreSizes m sizes × (sizes function ≡ size)

-- the size of `compute` with calls inlined, in units
abbrev pub IsSizeOfCompute : Module → ℕ → Type 0
IsSizeOfCompute m size = (compute : HasCompute m) → IsSizeAt m compute.number size

-- one more than the deepest function that each function calls; 0 for an imported function
abbrev pub AreDepths : Module → (ℕ → ℕ) → Type 0
AreDepths m depths = (f : ℕ) → depths f ≡ height depths (body_of m f)

-- the length of the longest chain of calls that begins with the function
abbrev pub IsDepthAt : Module → ℕ → ℕ → Type 0
IsDepthAt m function depth = (depths : ℕ → ℕ) × AreDepths m depths × (depths function ≡ depth)

-- the greatest height of the operand stack in a call of the function
abbrev pub IsHeightAt : Module → ℕ → ℕ → Type 0
IsHeightAt m function most = (heights : ℕ → ℕ) × AreHeights m heights × (heights function ≡ most)

-- the facts are those of this function
pub record AreFactsAt (m : Module) (function : ℕ) (facts : Facts) : Type 0 where
  pub number : facts.compute ≡ function
  pub size : IsSizeAt m function facts.size
  pub operands : IsHeightAt m function facts.max_operands
  pub frames : IsDepthAt m function facts.max_frames

-- the facts are those of `compute`
abbrev pub AreFacts : Module → Facts → Type 0
AreFacts m facts = (compute : HasCompute m) → AreFactsAt m compute.number facts
