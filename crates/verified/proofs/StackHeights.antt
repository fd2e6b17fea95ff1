-- The stack along code is no higher than the size of the code.
use Rattle.std.proofs.Common.{ℕ, ◌+◌, ◌≤◌, List, [], ◌∷◌, ◌++◌, Option, Some, None, arith}
use Rattle.std.specs.List.{AllByRecursion}
use Rattle.wasm_ast.specs.declared.types.ValType.{ValType}
use Rattle.wasm_ast.specs.declared.plain.Variable.{Variable}
use Rattle.wasm_ast.specs.declared.plain.Variable.TheVariants as variable
use Rattle.wasm_ast.specs.declared.plain.Memory.{Memory}
use Rattle.wasm_ast.specs.declared.plain.Memory.TheVariants as memory
use Rattle.wasm_ast.specs.declared.plain.Plain.{Plain}
use Rattle.wasm_ast.specs.declared.plain.Plain.TheVariants as plain
use Rattle.wasm_ast.specs.declared.plain.Branch.{Branch}
use Rattle.wasm_ast.specs.declared.plain.Branch.TheVariants as branch
use Rattle.wasm_ast.specs.declared.module.Module.{Module}
use Rattle.wasm_ast.specs.Code.{Code}
use Rattle.wasm_ast.specs.Code as code
use Rattle.verified.specs.Calls.{calls_of}
use Rattle.verified.specs.LeastUnits.{plain_least, branch_least, call_least}
use Rattle.verified.specs.Sizes.{code_size}
use Rattle.verified.specs.Arities.{plain_arity, variable_arity, memory_arity, branch_arity, call_arity, result_count, block_arity, test_arity}
use Rattle.verified.specs.Heights.{after, peak}
use Rattle.verified.specs.Cells.{no_heights}

-- ---- instructions give one operand at most

variable_gives : (op : Variable) → (variable_arity op).gives ≤ 1
variable_gives (variable.LocalGet x) = omega arith
variable_gives (variable.LocalSet x) = omega arith
variable_gives (variable.LocalTee x) = omega arith
variable_gives (variable.GlobalGet x) = omega arith
variable_gives (variable.GlobalSet x) = omega arith

memory_gives : (op : Memory) → (memory_arity op).gives ≤ 1
memory_gives (memory.Load op a) = omega arith
memory_gives (memory.Store op a) = omega arith
memory_gives memory.Size = omega arith
memory_gives memory.Grow = omega arith

plain_gives : (p : Plain) → (plain_arity p).gives ≤ 1
plain_gives plain.Nop = omega arith
plain_gives plain.Drop = omega arith
plain_gives plain.Select = omega arith
plain_gives (plain.Const v) = omega arith
plain_gives (plain.Numeric op) = omega arith
plain_gives (plain.Variable op) = variable_gives op
plain_gives (plain.Memory op) = memory_gives op

branch_gives : (b : Branch) → (branch_arity b).gives ≤ 1
branch_gives (branch.Br l) = omega arith
branch_gives (branch.BrIf l) = omega arith
branch_gives (branch.BrTable ls l) = omega arith
branch_gives branch.Return = omega arith

block_gives : (t : Option ValType) → result_count t ≤ 1
block_gives None = omega arith
block_gives (Some t) = omega arith

-- ---- lists of calls

pub parts : (P : ℕ → Type 0) (xs ys : List ℕ) → AllByRecursion P (xs ++ ys) → AllByRecursion P xs × AllByRecursion P ys
parts P [] ys h = (tt, h)
parts P (x ∷ xs) ys h = let p = parts P xs ys h.1 in ((h.0, p.0), p.1)

pub weaker : (P Q : ℕ → Type 0) → ((f : ℕ) → P f → Q f) → (xs : List ℕ) → AllByRecursion P xs → AllByRecursion Q xs
weaker P Q g [] h = tt
weaker P Q g (x ∷ xs) h = (g x h.0, weaker P Q g xs h.1)

-- ---- code and its size

module _ (m : Module) (heights : ℕ → ℕ) where
  module _ (sizes : ℕ → ℕ) (narrow : (f : ℕ) → (call_arity m f).gives ≤ 1) where
    abbrev IsSmall : ℕ → Type 0
    IsSmall f = heights f ≤ sizes f

    -- code is no higher than its size above its start
    pub bounded : (c : Code) (here : ℕ) → AllByRecursion IsSmall (calls_of c) → peak m heights c here ≤ here + code_size m sizes c
    bounded code.end here s = omega arith
    bounded (code.plain p rest) here s =
        let w = plain_least p in
        let g = plain_gives p in
        let h = bounded rest (after (plain_arity p) here) s in
        omega (arith, g, w, h)
    bounded (code.branch b rest) here s =
        let w = branch_least b in
        let g = branch_gives b in
        let h = bounded rest (after (branch_arity b) here) s in
        omega (arith, g, w, h)
    bounded (code.call f rest) here s =
        let w = call_least m f in
        let g = narrow f in
        let a = s.0 in
        let h = bounded rest (after (call_arity m f) here) s.1 in
        omega (arith, g, w, a, h)
    bounded (code.call_indirect t rest) here s = let h = bounded rest here s in omega (arith, h)
    bounded (code.unreachable rest) here s = let h = bounded rest here s in omega (arith, h)
    bounded (code.block t body rest) here s =
        let p = parts IsSmall (calls_of body) (calls_of rest) s in
        let g = block_gives t in
        let b = bounded body 0 p.0 in
        let h = bounded rest (after (block_arity t) here) p.1 in
        omega (arith, g, b, h)
    bounded (code.loop t body rest) here s =
        let p = parts IsSmall (calls_of body) (calls_of rest) s in
        let g = block_gives t in
        let b = bounded body 0 p.0 in
        let h = bounded rest (after (block_arity t) here) p.1 in
        omega (arith, g, b, h)
    bounded (code.choice t body other rest) here s =
        let p = parts IsSmall (calls_of body) (calls_of other ++ calls_of rest) s in
        let q = parts IsSmall (calls_of other) (calls_of rest) p.1 in
        let g = block_gives t in
        let b = bounded body 0 p.0 in
        let o = bounded other 0 q.0 in
        let h = bounded rest (after (block_arity t) (after test_arity here)) q.1 in
        omega (arith, g, b, o, h)

-- ---- a function's own operands

module _ (m : Module) where
  none_tall : (sizes : ℕ → ℕ) (fs : List ℕ) → AllByRecursion (λ f. no_heights f ≤ sizes f) fs
  none_tall sizes [] = tt
  none_tall sizes (f ∷ fs) = (omega arith, none_tall sizes fs)

  -- they are no higher than the size of the function
  pub own_small : (sizes : ℕ → ℕ) → ((f : ℕ) → (call_arity m f).gives ≤ 1) → (c : Code) → peak m no_heights c 0 ≤ code_size m sizes c
  own_small sizes narrow c =
      let b = bounded m no_heights sizes narrow c 0 (none_tall sizes (calls_of c)) in
      omega (arith, b)
