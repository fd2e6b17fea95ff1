-- Rules on the instructions of code and their order.
use Rattle.std.specs.Prelude.{◌≡◌, ◌≢◌, ℕ, ◌+◌, ◌≤◌, ◌⊎◌, ⊤, Option, Some}
use Rattle.std.specs.List.{AllByRecursion}
use Rattle.wasm_ast.specs.declared.types.ValType.TheVariants.{I32}
use Rattle.wasm_ast.specs.declared.numeric.Numeric.TheVariants as numeric
use Rattle.wasm_ast.specs.declared.plain.Memory.TheVariants as memory
use Rattle.wasm_ast.specs.declared.plain.Plain.TheVariants as plain
use Rattle.wasm_ast.specs.declared.plain.Branch.{Branch}
use Rattle.wasm_ast.specs.declared.plain.Branch.TheVariants as branch
use Rattle.wasm_ast.specs.Code.{Code}
use Rattle.wasm_ast.specs.Code as code
use Rattle.verified.specs.declared.imports.HostCall.{HostCall}
use Rattle.verified.specs.declared.imports.HostCall.TheVariants.{NextMessage, NextEdge}
use Rattle.verified.specs.declared.shape.Shape.{Shape}
use Rattle.verified.specs.declared.shape.Shape.TheVariants as shape

-- P holds of the code that begins at each instruction, to the end of its sequence
abbrev pub Everywhere : (Code → Type 0) → Code → Type 0
Everywhere P code.end = ⊤
Everywhere P (code.plain p rest) = P (code.plain p rest) × Everywhere P rest
Everywhere P (code.branch b rest) = P (code.branch b rest) × Everywhere P rest
Everywhere P (code.call f rest) = P (code.call f rest) × Everywhere P rest
Everywhere P (code.call_indirect t rest) = P (code.call_indirect t rest) × Everywhere P rest
Everywhere P (code.unreachable rest) = P (code.unreachable rest) × Everywhere P rest
Everywhere P (code.block t body rest) = P (code.block t body rest) × Everywhere P body × Everywhere P rest
Everywhere P (code.loop t body rest) = P (code.loop t body rest) × Everywhere P body × Everywhere P rest
Everywhere P (code.choice t body other rest) =
    P (code.choice t body other rest) × Everywhere P body × Everywhere P other × Everywhere P rest

abbrev pub NotIndirect : Code → Type 0
NotIndirect (code.call_indirect t rest) = ⊥
NotIndirect _ = ⊤

abbrev pub NotUnreachable : Code → Type 0
NotUnreachable (code.unreachable rest) = ⊥
NotUnreachable _ = ⊤

abbrev pub NotGrow : Code → Type 0
NotGrow (code.plain (plain.Memory memory.Grow) rest) = ⊥
NotGrow _ = ⊤

-- nothing comes after a branch that is always taken
abbrev pub LastIfBranch : Code → Type 0
LastIfBranch (code.branch (branch.Br l) rest) = rest ≡ code.end
LastIfBranch (code.branch (branch.BrTable ls l) rest) = rest ≡ code.end
LastIfBranch (code.branch branch.Return rest) = rest ≡ code.end
LastIfBranch _ = ⊤

-- the host's function takes the next message or the next edge
abbrev pub TakesItem : Option HostCall → Type 0
TakesItem (Some NextMessage) = ⊤
TakesItem (Some NextEdge) = ⊤
TakesItem _ = ⊥

-- the code takes an item and, where there is none, leaves the loop
pub record OpensWithItem (calls : ℕ → Option HostCall) (body : Code) : Type 0 where
  pub function : ℕ
  pub label : ℕ
  pub rest : Code
  pub opens : body ≡ code.call function (code.plain (plain.Numeric (numeric.Eqz I32)) (code.branch (branch.BrIf label) rest))
  pub takes : TakesItem (calls function)
  pub leaves : 1 ≤ label

-- no branch names the label with this number
abbrev pub BranchNamesNot : ℕ → Branch → Type 0
BranchNamesNot n (branch.Br l) = l ≢ n
BranchNamesNot n (branch.BrIf l) = l ≢ n
BranchNamesNot n (branch.BrTable ls l) = AllByRecursion (λ k. k ≢ n) ls × (l ≢ n)
BranchNamesNot n branch.Return = ⊤

-- no branch in the code, at any depth, names the label with this number, counted from the code
abbrev pub NamesNot : ℕ → Code → Type 0
NamesNot n code.end = ⊤
NamesNot n (code.plain p rest) = NamesNot n rest
NamesNot n (code.branch b rest) = BranchNamesNot n b × NamesNot n rest
NamesNot n (code.call f rest) = NamesNot n rest
NamesNot n (code.call_indirect t rest) = NamesNot n rest
NamesNot n (code.unreachable rest) = NamesNot n rest
NamesNot n (code.block t body rest) = NamesNot (n + 1) body × NamesNot n rest
NamesNot n (code.loop t body rest) = NamesNot (n + 1) body × NamesNot n rest
NamesNot n (code.choice t body other rest) = NamesNot (n + 1) body × NamesNot (n + 1) other × NamesNot n rest

-- one sequence after another
abbrev pub followed : Code → Code → Code
followed code.end next = next
followed (code.plain p rest) next = code.plain p (followed rest next)
followed (code.branch b rest) next = code.branch b (followed rest next)
followed (code.call f rest) next = code.call f (followed rest next)
followed (code.call_indirect t rest) next = code.call_indirect t (followed rest next)
followed (code.unreachable rest) next = code.unreachable (followed rest next)
followed (code.block t body rest) next = code.block t body (followed rest next)
followed (code.loop t body rest) next = code.loop t body (followed rest next)
followed (code.choice t body other rest) next = code.choice t body other (followed rest next)

-- the code takes an item at its end, and goes back to the loop where there was one; no other branch goes back
pub record ClosesWithItem (calls : ℕ → Option HostCall) (body : Code) : Type 0 where
  pub front : Code
  pub function : ℕ
  pub closes : body ≡ followed front (code.call function (code.branch (branch.BrIf 0) code.end))
  pub takes : TakesItem (calls function)
  pub alone : NamesNot 0 front

-- the body of a loop takes an item each time round, at its beginning or at its end
abbrev pub TakesItems : (ℕ → Option HostCall) → Code → Type 0
TakesItems calls body = OpensWithItem calls body ⊎ ClosesWithItem calls body

abbrev pub LoopTakes : (ℕ → Option HostCall) → Code → Type 0
LoopTakes calls (code.loop t body rest) = TakesItems calls body
LoopTakes calls _ = ⊤

-- the rule holds at the first instruction of the code
abbrev pub Keeps : (ℕ → Option HostCall) → Shape → Code → Type 0
Keeps calls shape.NoIndirectCalls = NotIndirect
Keeps calls shape.NoUnreachable = NotUnreachable
Keeps calls shape.NoGrowth = NotGrow
Keeps calls shape.NothingAfterBranches = LastIfBranch
Keeps calls shape.LoopsTakeItems = LoopTakes calls
