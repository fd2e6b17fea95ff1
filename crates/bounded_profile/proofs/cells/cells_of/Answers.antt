use Rattle.std.proofs.Common.{◌≡◌, ◌+◌, [], length, min, refl, ap, ◌∙◌, arith}
use Rattle.wasm_ast.specs.Limits.{parameters_of}
use Rattle.verified.specs.Arities.{arity_table}
use Rattle.verified.specs.Cells.{no_heights, most_told}
use Rattle.verified.specs.Heights.{peak}
use Rattle.profile_rules.specs.inside.StackHeights.{most_along}
use Rattle.profile_rules.proofs.StackHeights.{own_along}
use Rattle.bounded_profile.proofs.cells.cells_of.Goals as goal

pub returns : goal.returns
returns c =
    let m = c.args.module.now in
    let f = c.args.function.now in
    let parameters : c.parameter_count-parameters.result ≡ parameters_of m.types f.type_number = c.parameter_count-parameters.ensures ∙ ap (λ types. parameters_of types f.type_number) c.as_slice.ensures in
    let others = ap length c.as_slice-2.ensures in
    let along : c.most_along-operands.result ≡ most_along (arity_table m) [] f.body = c.most_along-operands.ensures ∙ ap (λ arities. most_along arities c.args.heights.now f.body) c.requires.arities ∙ ap (λ heights. most_along (arity_table m) heights f.body) c.requires.none in
    let own = own_along m f.body in
    let operands : c.min.result ≡ min (peak m no_heights f.body 0) most_told = omega (arith, c.min.ensures, along, own) in
    let locals : c.parameter_count-parameters.result + length c.as_slice-2.result.now ≡ parameters_of m.types f.type_number + length f.locals = omega (arith, parameters, others) in
    rw (locals, operands) refl
