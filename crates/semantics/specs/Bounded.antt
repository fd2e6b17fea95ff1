-- The bounds on a compute call of a bounded module.
use Rattle.std.specs.Prelude.{◌≡◌, ◌≢◌, ℕ, ◌+◌, ◌*◌, ◌≤◌, ℤ, length}
use Rattle.std.specs.List.{AllByRecursion}
use Rattle.wasm_ast.specs.declared.module.Module.{Module}
use Rattle.verified.specs.declared.call.CallInput.{CallInput}
use Rattle.verified.specs.declared.call.CallOutcome.{CallOutcome}
use Rattle.verified.specs.Modules.{IsTyped}
use Rattle.verified.specs.Sizes.{AreSizes}
use Rattle.verified.specs.Profile.{IsBounded}
use Rattle.semantics.specs.Configuration.{State}
use Rattle.semantics.specs.Instructions.{instructions}
use Rattle.semantics.specs.Machine.{Machine, Done, Trapped, Stuck, run}
use Rattle.semantics.specs.Start.{Starts}
use Rattle.semantics.specs.Call.{IsOutcome, IsTrapped, IsStuck}
use Rattle.verified.specs.Heights.{AreHeights}
use Rattle.verified.specs.declared.facts.Facts.{Facts}
use Rattle.verified.specs.Facts.{AreDepths, AreFacts, IsSizeOfCompute}
use Rattle.semantics.specs.Heights.{operands, frames}

-- The call begins and ends, within this many units, and executes no more instructions. It never traps, and there is a
-- step for each instruction. It never has more operands and frames than these.
pub record Ends (m : Module) (input : CallInput) (units most_operands most_frames : ℕ) : Type 0 where
  pub first : Machine
  pub starts : Starts m input first
  pub steps : ℕ
  pub final : State
  pub done : run m steps first ≡ Done final
  pub within : final.count ≤ units
  pub executes : (n : ℕ) → instructions m n first ≤ units
  -- each step takes an instruction, except those that leave a block or a function
  pub short : steps ≤ 2 * final.count + 1
  pub untrapped : (n count : ℕ) → run m n first ≢ Trapped count
  pub unstuck : (n count : ℕ) → run m n first ≢ Stuck count
  pub low : (n : ℕ) → operands (run m n first) ≤ most_operands
  pub shallow : (n : ℕ) → frames (run m n first) ≤ most_frames

-- the number of messages and edges to take
abbrev pub items_of : CallInput → ℕ
items_of input = length input.messages.now + length input.edges.now

-- Each call of a bounded module ends within its size, times one more than there are messages and edges.
abbrev pub CallsEnd : Module → Type 0
CallsEnd m =
    (typed : IsTyped m) (bounded : IsBounded m) (sizes heights depths : ℕ → ℕ) → AreSizes m sizes → AreHeights m heights → AreDepths m depths
    → (input : CallInput) → let f = bounded.compute.number in Ends m input (sizes f * (1 + items_of input)) (heights f) (depths f)

-- the same by the bounds that `verify` returns
abbrev pub FactsHold : Module → Type 0
FactsHold m =
    IsTyped m → IsBounded m → (facts : Facts) → AreFacts m facts
    → (input : CallInput) → Ends m input (facts.size * (1 + items_of input)) facts.max_operands facts.max_frames

-- the call ends, within some bounds
abbrev pub ComesToItsEnd : Module → CallInput → Type 0
ComesToItsEnd m input = (units most_operands most_frames : ℕ) × Ends m input units most_operands most_frames

-- these bounds exist
pub record HasBounds (m : Module) : Type 0 where
  pub sizes : (sizes : ℕ → ℕ) × AreSizes m sizes
  pub heights : (heights : ℕ → ℕ) × AreHeights m heights
  pub depths : (depths : ℕ → ℕ) × AreDepths m depths

-- The call never traps and has a step for each instruction. Its outcome counts no more than this many units.
pub record MeetsNoFault (m : Module) (input : CallInput) (units : ℕ) : Type 0 where
  pub outcome : (outcome : CallOutcome) → IsOutcome m input outcome → outcome.units ≤ units
  pub trap : (count : ℕ) → IsTrapped m input count → ⊥
  pub stick : (count : ℕ) → IsStuck m input count → ⊥

-- the outcome counts no more than the size of `compute`, times one more than there are messages and edges
abbrev pub IsWithinBound : Module → CallInput → CallOutcome → Type 0
IsWithinBound m input outcome = (size : ℕ) → IsSizeOfCompute m size → outcome.units ≤ size * (1 + items_of input)

-- from the first configuration of the call on, no instruction traps, and there is a step for each
pub record NeverFails (m : Module) (input : CallInput) : Type 0 where
  pub trap : (first : Machine) → Starts m input first → (n count : ℕ) → run m n first ≢ Trapped count
  pub stick : (first : Machine) → Starts m input first → (n count : ℕ) → run m n first ≢ Stuck count

-- the greatest id: guests see ids as signed numbers, and none of them is negative
abbrev pub max_id : ℕ
max_id = 9223372036854775807

-- the id and the targets of the edges are at most the greatest id
pub record HasIds (input : CallInput) : Type 0 where
  pub id : input.id ≤ max_id
  pub targets : AllByRecursion (λ (edge : ℕ × ℤ). edge.0 ≤ max_id) input.edges.now
