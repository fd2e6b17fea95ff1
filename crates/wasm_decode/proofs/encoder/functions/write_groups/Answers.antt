use Rattle.std.proofs.Common.{◌≡◌, ◌∙◌, ℕ, List, OnOk, subst, sym}
use Rattle.wasm_ast.specs.declared.types.ValType.TheVariants.{I32}
use Rattle.wasm_decode.proofs.CanonicalGroups.{grouped_same, grouped_next, grouped_last, same_type-is}
use Rattle.wasm_decode.proofs.encoder.functions.write_groups.Goals as goal

pub loop-local-preserved-then-eq : goal.loop-local-preserved-then-eq
loop-local-preserved-then-eq c =
    grouped_same c.args.others.now _ c.loop-local.out.items c.loop-local.count c.loop-local.val_type c.loop-local.local-index I32 c.loop-local.invariant
    c.loop-local-test.true (sym (same_type-is _ c.loop-local.val_type) ∙ sym c.eq.ensures ∙ c.if-eq.true)

pub loop-local-preserved : goal.loop-local-preserved
loop-local-preserved c =
    grouped_next c.args.others.now _ c.loop-local.out.items c.write_group.new.out.items c.loop-local.count c.loop-local.val_type c.loop-local.local-index
    I32 c.loop-local.invariant c.loop-local-test.true (sym (same_type-is _ c.loop-local.val_type) ∙ sym c.eq.ensures ∙ c.if-eq.false)
    c.in_ok-write_group.ensures

pub returns : goal.returns
returns c =
    let all = grouped_last c.args.others.now _ c.loop-local.out.items c.loop-local.count c.loop-local.val_type c.loop-local.local-index c.loop-local.invariant
    c.loop-local-test.false in
    subst (λ (xs : List ℕ). OnOk c.write_group-2.result (c.write_group-2.new.out.items ≡ xs)) all c.write_group-2.ensures
