use Rattle.std.proofs.Common.{◌<◌, ◌+◌, length, refl, sym, ap, subst, arith}
use Rattle.wasm_ast.specs.Code.{size_of, end}
use Rattle.wasm_ast.specs.View.{code_of, then_code}
use Rattle.wasm_ast.specs.Falls.{item_falls}
use Rattle.wasm_ast.specs.declared.body.Body.TheDeep.{deep-Instr}
use Rattle.profile_rules.specs.inside.Closing.{LabelFits}
use Rattle.profile_rules.proofs.Nested.{one_deeper, within_body, within_here}
use Rattle.profile_rules.proofs.loops.+code.Goals as goal

pub names_not_at-names_not-requires : goal.names_not_at-names_not-requires
names_not_at-names_not-requires t c =
    let w = subst (λ x. LabelFits c.args.label (then_code x end)) c.in-If.is c.requires in
    let s = ap size_of c.as_slice.ensures in
    let d = ap deep-Instr c.in-If.is in
    (omega (arith, s, d, c.decreases), subst (LabelFits (c.args.label + 1)) (sym c.as_slice.ensures) (one_deeper c.args.label c.in-If.body w.0 w.1))

pub names_not_at-names_not-requires-then-names_not : goal.names_not_at-names_not-requires-then-names_not
names_not_at-names_not-requires-then-names_not t c =
    let w = subst (λ x. LabelFits c.args.label (then_code x end)) c.in-If.is c.requires in
    let s = ap size_of c.as_slice-then-names_not.ensures in
    let d = ap deep-Instr c.in-If.is in
    (omega (arith, s, d, c.decreases), subst (LabelFits (c.args.label + 1)) (sym c.as_slice-then-names_not.ensures) (one_deeper c.args.label c.in-If.other w.0 w.2))

pub names_not_at-names_not-requires-in-Block : goal.names_not_at-names_not-requires-in-Block
names_not_at-names_not-requires-in-Block t c =
    let w = within_body _ c.args.instr.now c.in-Block.body c.in-Block.is c.requires in
    let s = ap size_of c.as_slice-in-Block.ensures in
    (omega (arith, s, w.0, c.decreases), subst (LabelFits (c.args.label + 1)) (sym c.as_slice-in-Block.ensures) (one_deeper c.args.label c.in-Block.body w.1 w.2))

pub names_not-names_not_at-requires : goal.names_not-names_not_at-requires
names_not-names_not_at-requires t c =
    let is = c.args.instrs.now in
    let h : c.loop-instr.instr-index < length is = omega arith in
    let f = item_falls is c.loop-instr.instr-index c.instr-item.result (code_of is) h c.instr-item.is refl in
    (omega (arith, f, c.decreases), (within_here _ is c.loop-instr.instr-index c.instr-item.result h c.instr-item.is c.loop-instr.invariant.fits).0)
