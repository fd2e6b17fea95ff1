use Rattle.std.proofs.Common.{◌≡◌, [], ◌∷◌, ◌++◌, get_or, take, append_assoc, ap, sym, ◌∙◌}
use Rattle.std.proofs.lemmas.List.{map_more, take_all}
use Rattle.wasm_ast.specs.declared.module.Global.{Global}
use Rattle.validate.specs.inside.Checks.{global_types}
use Rattle.validate.proofs.spaces.with_types_of.Goals as goal

pub loop-global-preserved : goal.loop-global-preserved
loop-global-preserved c =
    let types = c.args.types.now in
    let globals = c.args.globals.now in
    let index = c.loop-global.global-index in
    let global = c.global-item.result in
    let type_of = λ (global : Global). global.global_type in
    let own : global.global_type ≡ type_of (get_or globals index global) = ap type_of c.global-item.is in
    c.in_ok-push.ensures.items
    ∙ (λ k. c.loop-global.invariant k ++ own k ∷ [])
    ∙ append_assoc types (global_types (take index globals)) (type_of (get_or globals index global) ∷ [])
    ∙ ap (λ others. types ++ others) (sym (map_more type_of globals index global c.loop-global-test.true))

pub returns : goal.returns
returns c = c.loop-global.invariant ∙ ap (λ globals. c.args.types.now ++ global_types globals) (take_all c.loop-global.global-index c.args.globals.now c.loop-global-test.false)
