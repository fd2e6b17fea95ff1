use Rattle.std.proofs.Common.{◌+◌, ◌<◌, ◌≤◌, List, length, drop, sym, ap, ◌∙◌, arith}
use Rattle.wasm_ast.specs.Code.{Code}
use Rattle.wasm_ast.specs.Falls.{item_falls}
use Rattle.wasm_ast.specs.View as syntax
use Rattle.wasm_ast.proofs.Codes.{code_done, code_step}
use Rattle.verified.specs.declared.body.FlatInstr.{FlatInstr}
use Rattle.verified.specs.View.{code_before}
use Rattle.verified.proofs.Codes.{before_end, before_push}
use Rattle.verified.proofs.flatten.+flatten.Goals as goal

pub flat_body-flat_instr-requires : goal.flat_body-flat_instr-requires
flat_body-flat_instr-requires t c =
    let h : c.loop-instr.instr-index < length c.as_slice-instrs.result.now = omega arith in
    let f = item_falls c.as_slice-instrs.result.now c.loop-instr.instr-index c.instr-item.result c.args.body.now h c.instr-item.is c.as_slice-instrs.ensures in
    (omega (arith, f, c.decreases), tt)

pub flat_body-loop-instr-preserved : goal.flat_body-loop-instr-preserved
flat_body-loop-instr-preserved t c =
    let is = c.as_slice-instrs.result.now in
    let k = c.loop-instr.instr-index in
    let done = c.loop-instr.flat.items in
    let rest = syntax.code_of (drop (k + 1) is) in
    let flat = c.in_ok-flat_instr.field-0 in
    let h : k < length is = omega arith in
    ap (λ (l : List FlatInstr). code_before l rest) c.in_ok-push.ensures.items
    ∙ before_push done flat rest
    ∙ ap (λ (r : Code). code_before done r) (c.in_ok-flat_instr.ensures rest ∙ sym (code_step is k c.instr-item.result h c.instr-item.is))
    ∙ c.loop-instr.invariant

pub flat_body-returns : goal.flat_body-returns
flat_body-returns t c =
    let is = c.as_slice-instrs.result.now in
    let k = c.loop-instr.instr-index in
    let h : length is ≤ k = omega arith in
    c.from.ensures
    ∙ sym (before_end c.loop-instr.flat.items)
    ∙ ap (λ (r : Code). code_before c.loop-instr.flat.items r) (sym (code_done is k h))
    ∙ c.loop-instr.invariant
    ∙ c.as_slice-instrs.ensures
