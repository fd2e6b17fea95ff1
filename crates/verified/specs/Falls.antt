-- A body is larger than each body inside it, so a recursion over bodies ends.
use Rattle.std.specs.Prelude.{◌+◌, ◌≤◌, List, [], ◌∷◌}
use Rattle.std.proofs.Common.{arith}
use denote.Param.Weighed.{most}
use Rattle.wasm_ast.specs.Code.{Code, size_of}
use Rattle.wasm_ast.specs.Falls.{some_size}
use Rattle.verified.specs.View.{code_of, then_code}
use Rattle.verified.specs.declared.body.FlatInstr.{FlatInstr}
use Rattle.verified.specs.declared.body.FlatInstr.TheVariants as flat
use Rattle.verified.specs.declared.body.FlatBody.TheDeep.{deep-FlatInstr}

-- an instruction, and what comes after it
pub both_fall : (i : FlatInstr) (rest : Code) → (deep-FlatInstr i + 1 ≤ size_of (then_code i rest)) × (size_of rest ≤ size_of (then_code i rest))
both_fall (flat.Br l) rest = (omega (arith, some_size rest), omega arith)
both_fall (flat.BrIf l) rest = (omega (arith, some_size rest), omega arith)
both_fall (flat.Branch b) rest = (omega (arith, some_size rest), omega arith)
both_fall (flat.Call f) rest = (omega (arith, some_size rest), omega arith)
both_fall (flat.CallIndirect t) rest = (omega (arith, some_size rest), omega arith)
both_fall flat.Unreachable rest = (omega (arith, some_size rest), omega arith)
both_fall (flat.Block t body) rest = (omega (arith, some_size rest), omega arith)
both_fall (flat.Loop t body) rest = (omega (arith, some_size rest), omega arith)
both_fall (flat.If t body other) rest = (omega (arith, some_size rest), omega arith)
both_fall _ rest = (omega (arith, some_size rest), omega arith)

pub falls : (is : List FlatInstr) → most (λ i. deep-FlatInstr i) is ≤ size_of (code_of is)
falls [] = omega arith
falls (i ∷ is) =
    let b = both_fall i (code_of is) in
    omega (arith, b.0, b.1, falls is)
