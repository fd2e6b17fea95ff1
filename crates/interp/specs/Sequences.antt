-- The bound on a sequence, from its first instruction to where it is left.
use Rattle.std.specs.Prelude.{◌≡◌, ◌≢◌, ℕ, ◌+◌, ◌*◌, ◌<◌, ◌≤◌, ◌⊎◌, List, [], ◌++◌, slice_get, Option, Some}
use Rattle.wasm_ast.specs.declared.types.ValType.{ValType}
use Rattle.wasm_ast.specs.declared.types.Value.{Value}
use Rattle.wasm_ast.specs.declared.module.Module.{Module}
use Rattle.wasm_ast.specs.Code.{Code}
use Rattle.wasm_ast.specs.Code as code
use Rattle.verified.specs.Modules.{IsTyped}
use Rattle.verified.specs.Sizes.{AreSizes, code_size}
use Rattle.verified.specs.Hosts.{host_call_at}
use Rattle.verified.specs.Kinds.{Kind}
use Rattle.verified.specs.Known.{Known}
use Rattle.verified.specs.Profile.{IsBounded, asks_all}
use Rattle.verified.specs.Shapes.{Everywhere, NotIndirect, NotUnreachable, NotGrow, LoopTakes}
use Rattle.semantics.specs.Configuration.{State}
use Rattle.semantics.specs.Machine.{ControlEntry, Machine, Running, Done, Trapped, Stuck, jump, back, run}
use Rattle.semantics.specs.Typed.{HasKinds, IsTop, Sound, items_left}

-- The sequence keeps the rules of the profile that hold for each sequence. It takes operands of kinds `from` to those
-- of `to`, in a function with these locals and this result. The blocks round it have these results, the innermost
-- first.
pub record IsBoundedSequence (m : Module) (locals : List ValType) (outcome : Option ValType) (labels : List (Option ValType)) (is : Code) (from to : List Kind) : Type 0 where
  pub known : Known is (record { «module» = m; asks = asks_all; locals = locals; labels = labels; outcome = outcome }) from to
  pub direct : Everywhere NotIndirect is
  pub reached : Everywhere NotUnreachable is
  pub steady : Everywhere NotGrow is
  pub loops : Everywhere (LoopTakes (host_call_at m)) is

-- the machine is in a sequence with these entries round it: it is before one of its instructions, or in a block or a
-- function that it entered
abbrev pub IsIn : List ControlEntry → Machine → Type 0
IsIn ls (Running vs is entries st) =
    (inner : List ControlEntry) × (entries ≡ inner ++ ls) × (inner ≡ [] → is ≢ code.end)
IsIn ls (Done st) = ⊥
IsIn ls (Trapped count) = ⊥
IsIn ls (Stuck count) = ⊥

-- A sequence with these entries round it is left in this state. It is at its end, with operands of kinds `to`; or a
-- branch left it to a label in scope, with an operand of the label's type on top, if there is one; or a return, with
-- one of the function's result.
abbrev pub IsLeft : Option ValType → List (Option ValType) → List Kind → Machine → List ControlEntry → State → Type 0
IsLeft outcome labels to x ls st =
    ((vs : List Value) × HasKinds vs to × (x ≡ Running vs code.end ls st))
    ⊎ (((l : ℕ) × (t : Option ValType) × (slice_get labels l ≡ Some t) × (top : Option Value) × IsTop t top × (x ≡ jump l top ls st))
    ⊎ ((top : Option Value) × IsTop outcome top × (x ≡ back top ls st)))

-- The sequence is left after this many steps, and was not left before. The state then fits its function. It counts no
-- more than its size, times one more than the items that it takes.
pub record CountsWithin (m : Module) (locals : List ValType) (outcome : Option ValType) (labels : List (Option ValType)) (to : List Kind) (size : ℕ) (is : Code) (vs : List Value) (ls : List ControlEntry) (st : State) : Type 0 where
  pub steps : ℕ
  pub final : State
  pub items : ℕ
  pub inside : (n : ℕ) → n < steps → IsIn ls (run m n (Running vs is ls st))
  pub left : IsLeft outcome labels to (run m steps (Running vs is ls st)) ls final
  pub sound : Sound m locals final
  pub taken : items_left st.host ≡ items + items_left final.host
  pub within : final.count ≤ st.count + size * (1 + items)

-- Each sequence that keeps the rules counts so in a module of the profile, whatever is round it. Its operands have
-- their kinds, and the state fits its function.
abbrev pub SequencesCount : Module → Type 0
SequencesCount m =
    IsTyped m → IsBounded m → (sizes : ℕ → ℕ) → AreSizes m sizes
    → (locals : List ValType) (outcome : Option ValType) (labels : List (Option ValType)) (is : Code) (from to : List Kind) → IsBoundedSequence m locals outcome labels is from to
    → (vs : List Value) (ls : List ControlEntry) (st : State) → HasKinds vs from → Sound m locals st → CountsWithin m locals outcome labels to (code_size m sizes is) is vs ls st
