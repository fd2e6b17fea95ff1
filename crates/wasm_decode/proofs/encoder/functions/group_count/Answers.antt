use Rattle.std.proofs.Common.{sym, ◌∙◌}
use Rattle.wasm_ast.specs.declared.types.ValType.TheVariants.{I32}
use Rattle.wasm_decode.proofs.CanonicalGroups.{counted_same, same_type-is}
use Rattle.wasm_decode.proofs.encoder.functions.group_count.Goals as goal

pub loop-local-preserved-then-eq : goal.loop-local-preserved-then-eq
loop-local-preserved-then-eq c =
    counted_same _ c.args.others.now _ c.loop-local.val_type c.loop-local.local-index I32 c.loop-local.invariant c.loop-local-test.true
    (sym (same_type-is _ c.loop-local.val_type) ∙ sym c.eq.ensures ∙ c.if-eq.true)
