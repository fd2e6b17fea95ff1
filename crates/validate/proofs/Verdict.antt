-- An answer about what the check finds is one about the rules.
use Rattle.std.proofs.Common.{◌≡◌, true, List, [], ◌∷◌, ◌++◌, subst}
use Rattle.std.specs.Prelude.{◌↔◌, Option, Some, slice_get, Result, Ok, Err}
use Rattle.wasm_ast.specs.declared.types.ValType.{ValType}
use Rattle.wasm_ast.specs.declared.types.FuncType.{FuncType}
use Rattle.wasm_ast.specs.declared.module.Function.{Function}
use Rattle.wasm_ast.specs.Code.{Code}
use Rattle.validate.specs.declared.fault.ValidFault.{ValidFault}
use Rattle.validate.specs.declared.fault.ValidFault.TheVariants as fault
use Rattle.verified.specs.Spaces.{Spaces, first_type}
use Rattle.verified.specs.Instructions.{BodyTyped}
use Rattle.verified.specs.Modules.{FunctionTyped}
use Rattle.validate.specs.inside.Answers.{body_passes}
use Rattle.validate.specs.inside.Findings.{Says, Settles}
use Rattle.validate.proofs.Exact.{closes_exact}

body_exact : (s : Spaces) (locals : List ValType) (outcome : Option ValType) (body : Code) → (body_passes s locals outcome body ≡ true) ↔ BodyTyped s locals outcome body
body_exact s locals outcome body =
    closes_exact body (record { spaces = s; locals = locals; labels = outcome ∷ []; outcome = outcome }) outcome

-- a function of this type
function_is : (s : Spaces) (f : Function) (t : FuncType) → slice_get s.types f.type_number ≡ Some t → BodyTyped s (t.parameters ++ f.locals) (first_type t.results) f.body → FunctionTyped s f
function_is s f t e h = (t, e, h)

function_on : (s : Spaces) (f : Function) (t : FuncType) → slice_get s.types f.type_number ≡ Some t → FunctionTyped s f → BodyTyped s (t.parameters ++ f.locals) (first_type t.results) f.body
function_on s f t e h =
    let same : h.0 ≡ t = cc (e, h.1) in
    subst (λ (u : FuncType). BodyTyped s (u.parameters ++ f.locals) (first_type u.results) f.body) same h.2

pub settled : (s : Spaces) (f : Function) (t : FuncType) (locals : List ValType) (outcome : Option ValType) (r : Result (Unit {0}) ValidFault) → slice_get s.types f.type_number ≡ Some t → locals ≡ t.parameters ++ f.locals → outcome ≡ first_type t.results → Says (body_passes s locals outcome f.body) r → Settles (FunctionTyped s f) r
settled s f t locals outcome r e l o h =
    by_answer r (subst (λ g. Says (body_passes s (t.parameters ++ f.locals) g f.body) r) o (subst (λ ls. Says (body_passes s ls outcome f.body) r) l h))
  where
    exact : (body_passes s (t.parameters ++ f.locals) (first_type t.results) f.body ≡ true) ↔ BodyTyped s (t.parameters ++ f.locals) (first_type t.results) f.body
    exact = body_exact s (t.parameters ++ f.locals) (first_type t.results) f.body

    by_answer : (r : Result (Unit {0}) ValidFault) → Says (body_passes s (t.parameters ++ f.locals) (first_type t.results) f.body) r → Settles (FunctionTyped s f) r
    by_answer (Ok u) h = function_is s f t e (exact.0 h)
    by_answer (Err fault.OutOfMemory) h = tt
    by_answer (Err (fault.Breaks rule place)) h = λ typed. let g = exact.1 (function_on s f t e typed) in absurd (cc (g, h))
