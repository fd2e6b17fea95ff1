use Rattle.std.proofs.Common.{◌+◌, ◌-◌, ◌<◌, ◌==◌, length, Bool, sym, ap, subst, arith}
use Rattle.std.proofs.lemmas.Bool.Decides.{Decides-eqb}
use Rattle.wasm_ast.specs.declared.body.Body.TheDeep.{deep-Instr}
use Rattle.wasm_ast.specs.Code.{Code, end}
use Rattle.wasm_ast.specs.View.{then_code}
use Rattle.wasm_ast.specs.Limits.{IsBodyWithin, max_nesting}
use Rattle.wasm_ast.specs.Falls.{item_falls}
use Rattle.verified.specs.Hosts.{call_at}
use Rattle.verified.specs.Shapes.{Everywhere, Keeps}
use Rattle.profile_rules.proofs.Nested.{within_more, within_here, within_body}
use Rattle.profile_rules.proofs.Walking.{Says, last_or_not, goes_on, breaks}
use Rattle.profile_rules.proofs.shapes.+code.Goals as goal

pub is_kept_in-is_kept_at-requires : goal.is_kept_in-is_kept_at-requires
is_kept_in-is_kept_at-requires t c =
    let is = c.as_slice-instrs.result.now in
    let h : c.loop-index.index < length is = omega arith in
    let f = item_falls is c.loop-index.index c.index-instrs-index.result c.args.body.now h c.index-instrs-index.is c.as_slice-instrs.ensures in
    (omega (arith, f, c.decreases), (within_here max_nesting is c.loop-index.index c.index-instrs-index.result h c.index-instrs-index.is c.loop-index.invariant.within).0)

pub is_kept_in-loop-index-preserved : goal.is_kept_in-loop-index-preserved
is_kept_in-loop-index-preserved t c =
    let is = c.as_slice-instrs.result.now in
    let k = c.loop-index.index in
    let i = c.index-instrs-index.result in
    let P = Keeps (call_at c.args.hosts.now) c.args.shape in
    let h : k < length is = omega arith in
    let d = Decides-eqb (k + 1) (length is) in
    let l = last_or_not is k (k + 1 == length is) h d.0 d.1 in
    let s = subst (λ (b : Bool). Says P i (k + 1 == length is) b) c.if-not-is_kept_at.false c.is_kept_at.ensures in
    record {
      within = (within_here max_nesting is k i h c.index-instrs-index.is c.loop-index.invariant.within).1;
      same = goes_on P is k i (k + 1 == length is) h c.index-instrs-index.is l s c.loop-index.invariant.same;
    }

pub is_kept_in-returns-then-not-is_kept_at : goal.is_kept_in-returns-then-not-is_kept_at
is_kept_in-returns-then-not-is_kept_at t c =
    let is = c.as_slice-instrs.result.now in
    let k = c.loop-index.index in
    let i = c.index-instrs-index.result in
    let P = Keeps (call_at c.args.hosts.now) c.args.shape in
    let h : k < length is = omega arith in
    let d = Decides-eqb (k + 1) (length is) in
    let l = last_or_not is k (k + 1 == length is) h d.0 d.1 in
    let s = subst (λ (b : Bool). Says P i (k + 1 == length is) b) c.if-not-is_kept_at.true c.is_kept_at.ensures in
    (λ f. absurd cc, λ all. absurd (breaks P is k i (k + 1 == length is) h c.index-instrs-index.is l s c.loop-index.invariant.same (subst (λ (b : Code). Everywhere P b) (sym c.as_slice-instrs.ensures) all)))

pub is_kept_at-is_kept_in-requires-in-Block : goal.is_kept_at-is_kept_in-requires-in-Block
is_kept_at-is_kept_in-requires-in-Block t c =
    let w = within_body max_nesting c.args.instr.now c.in-Block.body c.in-Block.is c.requires in
    (omega (arith, w.0, c.decreases), within_more (max_nesting - 1) max_nesting (omega arith) c.in-Block.body w.2)

pub is_kept_at-is_kept_in-requires : goal.is_kept_at-is_kept_in-requires
is_kept_at-is_kept_in-requires t c =
    let w = subst (λ i. IsBodyWithin (then_code i end)) c.in-If.is c.requires in
    let d = ap deep-Instr c.in-If.is in
    (omega (arith, d, c.decreases), within_more (max_nesting - 1) max_nesting (omega arith) c.in-If.body w.1)

pub is_kept_at-is_kept_in-requires-then-is_kept_in : goal.is_kept_at-is_kept_in-requires-then-is_kept_in
is_kept_at-is_kept_in-requires-then-is_kept_in t c =
    let w = subst (λ i. IsBodyWithin (then_code i end)) c.in-If.is c.requires in
    let d = ap deep-Instr c.in-If.is in
    (omega (arith, d, c.decreases), within_more (max_nesting - 1) max_nesting (omega arith) c.in-If.other w.2)
