use Rattle.std.proofs.Common.{◌≡◌, ℕ, ◌+◌, ◌<◌, ◌≤◌, true, List, Option, Some, length, get_or, slice_get, refl, ap, sym, ◌∙◌, subst}
use Rattle.std.proofs.lemmas.Option.{slice_get_read}
use Rattle.wasm_ast.specs.declared.types.FuncType.{FuncType}
use Rattle.wasm_ast.specs.Limits.{length_of_parameters, max_locals}
use Rattle.verified.specs.View.{code_of}
use Rattle.semantics.specs.Machine.{enter}
use Rattle.interp.specs.inside.Cells.{celled}
use Rattle.interp.specs.inside.Going.{goes_on}
use Rattle.interp.specs.inside.Walk.{Turns}
use Rattle.interp.proofs.walk.Walk.enter.Goals as goal

type_is : (types read : List FuncType) (number : ℕ) (found : FuncType) → read ≡ types → number < length read → found ≡ get_or read number found
    → slice_get types number ≡ Some found
type_is types read number found same within here =
    ap (λ ts. slice_get ts number) (sym same) ∙ slice_get_read read (length read) number found refl within here

pub enter_typed-requires-clause-few : goal.enter_typed-requires-clause-few
enter_typed-requires-clause-few c =
    let function = c.args.definition.function.now in
    let found = c.in-Some.ensures.lookup in
    let read = c.as_slice-types in
    let is =
    type_is c.args.program.module.now.types read.result.now function.type_number c.in-Some.func_type.now read.ensures found.3.0 found.1 in
    subst (λ (t : Option FuncType). length_of_parameters t + length function.locals ≤ max_locals) is c.requires.few

pub enter_typed-requires-clause-goes : goal.enter_typed-requires-clause-goes
enter_typed-requires-clause-goes c =
    let function = c.args.definition.function.now in
    let found = c.in-Some.ensures.lookup in
    let read = c.as_slice-types in
    let is =
    type_is c.args.program.module.now.types read.result.now function.type_number c.in-Some.func_type.now read.ensures found.3.0 found.1 in
    subst (λ (t : Option FuncType). goes_on (enter (celled function) t) (code_of c.args.code.now) c.args.count c.args.self.now ≡ true)
    is c.requires.goes

pub returns-clause-turned : goal.returns-clause-turned
returns-clause-turned c =
    let function = c.args.definition.function.now in
    let found = c.in-Some.ensures.lookup in
    let read = c.as_slice-types in
    let is =
    type_is c.args.program.module.now.types read.result.now function.type_number c.in-Some.func_type.now read.ensures found.3.0 found.1 in
    let turn = c.enter_typed in
    subst (λ (t : Option FuncType). Turns turn.result (enter (celled function) t) (code_of c.args.code.now) c.args.count c.args.self.now turn.new.self)
    (sym is) turn.ensures.turned
