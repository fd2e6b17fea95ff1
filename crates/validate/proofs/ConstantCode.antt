-- Two instructions or more are no constant expression.
use Rattle.std.proofs.Common.{◌≡◌, ◌≤◌, List, [], ◌∷◌, length, refl, sym, ap, ◌∙◌, arith}
use Rattle.std.specs.Prelude.{None}
use Rattle.wasm_ast.specs.declared.plain.Plain.{Plain}
use Rattle.wasm_ast.specs.declared.body.Instr.{Instr}
use Rattle.wasm_ast.specs.declared.body.Instr.TheVariants as instr
use Rattle.wasm_ast.specs.Code.{Code}
use Rattle.wasm_ast.specs.View.{code_of, then_code}
use Rattle.validate.specs.inside.Checks.{if_last, only_plain}

-- ---- two instructions or more

not_last : (p : Plain) (i : Instr) (rest : Code) → if_last p (then_code i rest) ≡ None
not_last p (instr.Plain q) rest = refl
not_last p (instr.Branch b) rest = refl
not_last p (instr.Call f) rest = refl
not_last p (instr.CallIndirect t) rest = refl
not_last p instr.Unreachable rest = refl
not_last p (instr.Block t body) rest = refl
not_last p (instr.Loop t body) rest = refl
not_last p (instr.If t body other) rest = refl

not_alone : (i j : Instr) (rest : Code) → only_plain (then_code i (then_code j rest)) ≡ None
not_alone (instr.Plain p) j rest = not_last p j rest
not_alone (instr.Branch b) j rest = refl
not_alone (instr.Call f) j rest = refl
not_alone (instr.CallIndirect t) j rest = refl
not_alone instr.Unreachable j rest = refl
not_alone (instr.Block t body) j rest = refl
not_alone (instr.Loop t body) j rest = refl
not_alone (instr.If t body other) j rest = refl

pub no_plain : (is : List Instr) (body : Code) → 2 ≤ length is → code_of is ≡ body → only_plain body ≡ None
no_plain [] body h e = absurd (omega arith)
no_plain (i ∷ []) body h e = absurd (omega arith)
no_plain (i ∷ j ∷ is) body h e = ap only_plain (sym e) ∙ not_alone i j (code_of is)
