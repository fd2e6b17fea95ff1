-- What holds of a module once its rules are checked up to one of them.
use Rattle.std.specs.Prelude.{ℕ}
use Rattle.wasm_ast.specs.declared.module.Module.{Module}
use Rattle.verified.specs.declared.facts.Facts.{Facts}
use Rattle.verified.specs.Compute.{IsComputeNumber}
use Rattle.verified.specs.Facts.{IsSizeAt, AreFactsAt}
use Rattle.verified.specs.Profile.{ImportsHostCalls, NoStart, NoElements, NoIndirectCalls, NoUnreachable, NoGrowth, NothingAfterBranches, LoopsTakeItems, NoCycles, SizeWithin}

-- P1, P3 and P4
pub record PartsHold (m : Module) : Type 0 where
  pub imports : ImportsHostCalls m
  pub start : NoStart m
  pub elements : NoElements m

-- P5 to P9
pub record ShapesHold (m : Module) : Type 0 where
  pub direct : NoIndirectCalls m
  pub reached : NoUnreachable m
  pub steady : NoGrowth m
  pub ordered : NothingAfterBranches m
  pub loops : LoopsTakeItems m

-- P12 and P14, where `compute` has this number
pub record CallsHold (m : Module) (compute : ℕ) : Type 0 where
  pub acyclic : NoCycles m
  pub size : SizeWithin m compute

-- P1 to P4, where `compute` has this number
abbrev pub PartsHoldAt : Module → ℕ → Type 0
PartsHoldAt m compute = PartsHold m × IsComputeNumber m compute

-- P14, and the size of the function with calls inlined
abbrev pub SizeHolds : Module → ℕ → ℕ → Type 0
SizeHolds m function size = SizeWithin m function × IsSizeAt m function size

-- P12 and P14, and the bounds on a call of `compute`
abbrev pub CallsHoldWith : Module → ℕ → Facts → Type 0
CallsHoldWith m compute facts = CallsHold m compute × AreFactsAt m compute facts
