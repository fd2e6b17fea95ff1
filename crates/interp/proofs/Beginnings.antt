-- How the start of a call goes on over the lists of a module.
use Rattle.std.proofs.Common.{◌≡◌, ◌≤◌, List, [], ◌∷◌, ◌++◌, Option, Some, None, length, refl, sym, ap, ◌∙◌, arith, append_assoc}
use Rattle.wasm_ast.specs.declared.types.Value.{Value}
use Rattle.wasm_ast.specs.declared.plain.Plain.{Plain}
use Rattle.wasm_ast.specs.declared.body.Instr.{Instr}
use Rattle.wasm_ast.specs.declared.body.Instr.TheVariants as instr
use Rattle.wasm_ast.specs.declared.module.Module.{Module}
use Rattle.wasm_ast.specs.Code.{Code}
use Rattle.wasm_ast.specs.Code as code
use Rattle.wasm_ast.specs.View.{code_of, then_code}
use Rattle.verified.specs.Modules.{IsTyped}
use Rattle.verified.specs.Profile.{IsBounded}
use Rattle.semantics.specs.Start.{before, constant_value}
use Rattle.interp.specs.inside.Begun.{HasInitial}
use Rattle.semantics.proofs.Starting.{begun}
use Rattle.semantics.proofs.Whole.{compute_defined}

-- ---- two instructions or more are no constant expression

not_last : (globals : List Value) (p : Plain) (i : Instr) (rest : Code) → constant_value globals (code.plain p (then_code i rest)) ≡ None
not_last globals p (instr.Plain q) rest = refl
not_last globals p (instr.Branch b) rest = refl
not_last globals p (instr.Call f) rest = refl
not_last globals p (instr.CallIndirect t) rest = refl
not_last globals p instr.Unreachable rest = refl
not_last globals p (instr.Block t body) rest = refl
not_last globals p (instr.Loop t body) rest = refl
not_last globals p (instr.If t body other) rest = refl

not_alone : (globals : List Value) (i j : Instr) (rest : Code) → constant_value globals (then_code i (then_code j rest)) ≡ None
not_alone globals (instr.Plain p) j rest = not_last globals p j rest
not_alone globals (instr.Branch b) j rest = refl
not_alone globals (instr.Call f) j rest = refl
not_alone globals (instr.CallIndirect t) j rest = refl
not_alone globals instr.Unreachable j rest = refl
not_alone globals (instr.Block t body) j rest = refl
not_alone globals (instr.Loop t body) j rest = refl
not_alone globals (instr.If t body other) j rest = refl

pub no_constant : (globals : List Value) (is : List Instr) (body : Code) → 2 ≤ length is → code_of is ≡ body → None ≡ constant_value globals body
no_constant globals [] body h e = absurd (omega arith)
no_constant globals (i ∷ []) body h e = absurd (omega arith)
no_constant globals (i ∷ j ∷ is) body h e = sym (ap (constant_value globals) (sym e) ∙ not_alone globals i j (code_of is))

-- ---- globals

-- values, and more after them, if there are more
abbrev pub after : List Value → Option (List Value) → Option (List Value)
after vs None = None
after vs (Some us) = Some (vs ++ us)

pub after_one : (vs : List Value) (v : Value) (o : Option (List Value)) → after vs (before (Some v) o) ≡ after (vs ++ v ∷ []) o
after_one vs v None = refl
after_one vs v (Some us) = ap (λ (l : List Value). Some l) (sym (append_assoc vs (v ∷ []) us))

-- ---- what a bounded module's calls begin with is there

pub has_initial : (m : Module) → IsTyped m → IsBounded m → HasInitial m
has_initial m typed bounded =
    let first = begun m typed bounded (compute_defined m bounded) in
    record {
      globals = first.globals;
      bytes = first.bytes;
      initial_values = first.begins.initial_values;
      initial_bytes = first.begins.initial_bytes;
    }
