use Rattle.std.proofs.Common.{List, [], ◌∷◌, ◌++◌, ap, ◌∙◌, append_assoc, replicate}
use Rattle.std.proofs.lemmas.List.{replicate_more}
use Rattle.wasm_ast.specs.declared.types.ValType.{ValType}
use Rattle.wasm_decode.proofs.code.push_copies.Goals as goal

pub loop-preserved : goal.loop-preserved
loop-preserved c =
    let local = c.args.local in
    let before = c.args.locals.now.items in
    c.in_ok-push.ensures.items
    ∙ ap (λ (items : List ValType). items ++ local ∷ []) c.loop.invariant
    ∙ append_assoc before (replicate c.loop.counter local) (local ∷ [])
    ∙ ap (λ (items : List ValType). before ++ items) (replicate_more c.loop.counter local)
