-- A body is larger than each body inside it, so a recursion over bodies ends.
use Rattle.std.specs.Prelude.{◌≡◌, ℕ, zero, suc, ◌+◌, ◌<◌, ◌≤◌, List, [], ◌∷◌, length, get_or}
use Rattle.std.proofs.Common.{arith, subst, sym}
use denote.Param.Weighed.{most}
use Rattle.wasm_ast.specs.Code.{Code, size_of, end, plain, branch, call, call_indirect, unreachable, block, loop, choice}
use Rattle.wasm_ast.specs.View.{code_of, then_code}
use Rattle.wasm_ast.specs.declared.body.Instr.{Instr}
use Rattle.wasm_ast.specs.declared.body.Instr.TheVariants as instr
use Rattle.wasm_ast.specs.declared.body.Body.TheDeep.{deep-Instr}

-- no code is empty
pub some_size : (c : Code) → 1 ≤ size_of c
some_size end = omega arith
some_size (plain p rest) = omega arith
some_size (branch b rest) = omega arith
some_size (call f rest) = omega arith
some_size (call_indirect t rest) = omega arith
some_size (unreachable rest) = omega arith
some_size (block t body rest) = omega arith
some_size (loop t body rest) = omega arith
some_size (choice t body other rest) = omega arith

-- an instruction, and what comes after it
pub both_fall : (i : Instr) (rest : Code) → (deep-Instr i + 1 ≤ size_of (then_code i rest)) × (size_of rest ≤ size_of (then_code i rest))
both_fall (instr.Plain p) rest = (omega (arith, some_size rest), omega arith)
both_fall (instr.Branch b) rest = (omega (arith, some_size rest), omega arith)
both_fall (instr.Call f) rest = (omega (arith, some_size rest), omega arith)
both_fall (instr.CallIndirect t) rest = (omega (arith, some_size rest), omega arith)
both_fall instr.Unreachable rest = (omega (arith, some_size rest), omega arith)
both_fall (instr.Block t body) rest = (omega (arith, some_size rest), omega arith)
both_fall (instr.Loop t body) rest = (omega (arith, some_size rest), omega arith)
both_fall (instr.If t body other) rest = (omega (arith, some_size rest), omega arith)

pub falls : (is : List Instr) → most (λ i. deep-Instr i) is ≤ size_of (code_of is)
falls [] = omega arith
falls (i ∷ is) =
    let b = both_fall i (code_of is) in
    omega (arith, b.0, b.1, falls is)

-- each instruction of a body is smaller than the body
at_falls : (is : List Instr) (k : ℕ) (d : Instr) → k < length is → deep-Instr (get_or is k d) < size_of (code_of is)
at_falls [] k d h = absurd (omega arith)
at_falls (i ∷ is) zero d h = let b = both_fall i (code_of is) in omega (arith, b.0)
at_falls (i ∷ is) (suc k) d h =
    let b = both_fall i (code_of is) in
    let g : k < length is = omega arith in
    omega (arith, b.1, at_falls is k d g)

-- the measure of a recursion over a body's instructions
pub item_falls : (is : List Instr) (k : ℕ) (i : Instr) (body : Code) → k < length is → i ≡ get_or is k i → code_of is ≡ body → deep-Instr i < size_of body
item_falls is k i body h e f =
    subst (λ c. deep-Instr i < size_of c) f (subst (λ x. deep-Instr x < size_of (code_of is)) (sym e) (at_falls is k i h))
