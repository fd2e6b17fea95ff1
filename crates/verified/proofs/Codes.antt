-- Flat code, instruction by instruction.
use Rattle.std.proofs.Common.{◌≡◌, ◌≢◌, ℕ, true, List, [], ◌∷◌, ◌++◌, Option, Some, is_some, refl, ap}
use Rattle.wasm_ast.specs.declared.types.ValType.{ValType}
use Rattle.wasm_ast.specs.declared.plain.Branch.{Branch}
use Rattle.wasm_ast.specs.declared.plain.Plain.{Plain}
use Rattle.wasm_ast.specs.Code.{Code, end, plain}
use Rattle.verified.specs.declared.body.FlatInstr.{FlatInstr}
use Rattle.verified.specs.declared.body.FlatInstr.TheVariants as flat
use Rattle.verified.specs.Plains.{plain_of}
use Rattle.verified.specs.View.{code_before, code_of, then_code, then_plain}

-- one that neither branches nor calls is that instruction of the syntax
pub then_known : (i : FlatInstr) (p : Plain) → plain_of i ≡ Some p → (rest : Code) → then_code i rest ≡ plain p rest
then_known i p e rest = ap (λ (o : Option Plain). then_plain o i rest) e

-- one instruction more
pub before_push : (is : List FlatInstr) (i : FlatInstr) (rest : Code) → code_before (is ++ i ∷ []) rest ≡ code_before is (then_code i rest)
before_push [] i rest = refl
before_push (j ∷ is) i rest = ap (then_code j) (before_push is i rest)

pub before_end : (is : List FlatInstr) → code_before is end ≡ code_of is
before_end [] = refl
before_end (i ∷ is) = ap (then_code i) (before_end is)

-- any instruction that is none of those that branch or call
pub others_plain : (i : FlatInstr) → ((l : ℕ) → i ≢ flat.Br l) → ((l : ℕ) → i ≢ flat.BrIf l) → ((b : Branch) → i ≢ flat.Branch b) → ((f : ℕ) → i ≢ flat.Call f) → ((t : ℕ) → i ≢ flat.CallIndirect t) → i ≢ flat.Unreachable → ((t : Option ValType) (body : Code) → i ≢ flat.Block t body) → ((t : Option ValType) (body : Code) → i ≢ flat.Loop t body) → ((t : Option ValType) (body other : Code) → i ≢ flat.If t body other) → is_some (plain_of i) ≡ true
others_plain (flat.Br l) br br_if branch call indirect unreachable block loop choice = absurd (br l refl)
others_plain (flat.BrIf l) br br_if branch call indirect unreachable block loop choice = absurd (br_if l refl)
others_plain (flat.Branch b) br br_if branch call indirect unreachable block loop choice = absurd (branch b refl)
others_plain (flat.Call f) br br_if branch call indirect unreachable block loop choice = absurd (call f refl)
others_plain (flat.CallIndirect t) br br_if branch call indirect unreachable block loop choice = absurd (indirect t refl)
others_plain flat.Unreachable br br_if branch call indirect unreachable block loop choice = absurd (unreachable refl)
others_plain (flat.Block t body) br br_if branch call indirect unreachable block loop choice = absurd (block t body refl)
others_plain (flat.Loop t body) br br_if branch call indirect unreachable block loop choice = absurd (loop t body refl)
others_plain (flat.If t body other) br br_if branch call indirect unreachable block loop choice = absurd (choice t body other refl)
others_plain _ br br_if branch call indirect unreachable block loop choice = refl
