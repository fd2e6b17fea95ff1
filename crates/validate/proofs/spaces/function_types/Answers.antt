use Rattle.std.proofs.Common.{◌≡◌, [], ◌∷◌, ◌++◌, arith, get_or, take, append_assoc, ap, sym, ◌∙◌}
use Rattle.std.proofs.lemmas.Grind.{common_steps}
use Rattle.std.proofs.lemmas.List.{map_more, take_all}
use Rattle.std.proofs.lemmas.List.Elements.{filter_map-append}
use Rattle.wasm_ast.specs.declared.module.Function.{Function}
use Rattle.verified.specs.Spaces.{function_import, imported}
use Rattle.validate.specs.inside.Checks.{type_numbers}
use Rattle.validate.proofs.spaces.function_types.Goals as goal

pub loop-import-preserved : goal.loop-import-preserved
loop-import-preserved c = grind (arith, common_steps, filter_map-append)

pub loop-function-preserved : goal.loop-function-preserved
loop-function-preserved c =
    let before = imported function_import c.args.imports.now in
    let functions = c.args.functions.now in
    let index = c.loop-function.function-index in
    let function = c.function-item.result in
    let number_of = λ (function : Function). function.type_number in
    let own : function.type_number ≡ number_of (get_or functions index function) = ap number_of c.function-item.is in
    c.in_ok-push-2.ensures.items
    ∙ (λ k. c.loop-function.invariant k ++ own k ∷ [])
    ∙ append_assoc before (type_numbers (take index functions)) (number_of (get_or functions index function) ∷ [])
    ∙ ap (λ others. before ++ others) (sym (map_more number_of functions index function c.loop-function-test.true))

pub returns : goal.returns
returns c = c.loop-function.invariant ∙ ap (λ functions. imported function_import c.args.imports.now ++ type_numbers functions) (take_all c.loop-function.function-index c.args.functions.now c.loop-function-test.false)
