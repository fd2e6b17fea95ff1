use Rattle.std.proofs.Common.{◌≡◌, ◌≤◌, List, ◌+◌, ◌-◌, map, drop, length, reverse, sym, ap, ◌∙◌, subst, arith}
use Rattle.wasm_ast.specs.declared.types.Value.{Value}
use Rattle.wasm_ast.specs.declared.types.Value.TheVariants.{I64}
use Rattle.verified.specs.View.{code_of}
use Rattle.interp.specs.inside.OperandStack.{operand_stack}
use Rattle.interp.specs.inside.Split.{Below, free_of}
use Rattle.interp.proofs.Lent.{IsLent, back_lower, back_cells, back_here, back_long, back_under, given_back, lent, lent_cells, lent_here, lent_long, part_long}
use Rattle.interp.proofs.Passing.{leads_same, passes_same, sends_same}
use Rattle.interp.proofs.OperandStacks.{free_is, held}
use Rattle.interp.proofs.Sending.{on_any}
use Rattle.interp.specs.inside.Walk.{max_count}
use Rattle.interp.proofs.straight.go_straight.Goals as goal

pub run_straight-requires-clause-leads : goal.run_straight-requires-clause-leads
run_straight-requires-clause-leads c =
    let o = c.operands.inside in
    let l = c.locals.inside in
    let whole = c.deref_mut.result.now in
    let others = c.deref_mut-2.result.now in
    let here : operand_stack (lent o.floor whole) (o.top - o.floor) ≡ c.args.operands.now.here =
    lent_here o.floor whole o.cells.items c.deref_mut.ensures.value o.top c.operands.invariant.0 ∙ ap (λ s. s.here) c.operands.view_is in
    let cells : map I64 (lent l.base others) ≡ c.args.locals.now.here =
    lent_cells l.base others l.cells.items c.deref_mut-2.ensures.value ∙ ap (λ s. s.here) c.locals.view_is in
    let free : free_of c.args.operands.now ≡ length (lent o.floor whole) =
    ap free_of (sym c.operands.view_is) ∙ free_is (length o.cells.items) o.floor o.top o.cells.items c.operands.invariant.0 c.operands.invariant.1 ∙ sym (lent_long o.floor whole o.cells.items c.deref_mut.ensures.value) in
    leads_same c.args.program.module.now max_count (code_of c.args.code.now) (code_of c.args.code.now) (operand_stack (lent o.floor whole) (o.top - o.floor)) c.args.operands.now.here (map I64 (lent l.base others)) c.args.locals.now.here here cells c.args.globals.now.here c.args.bytes.now c.args.host.now c.args.host.now c.args.count (free_of c.args.operands.now) (length (lent o.floor whole)) free c.requires.leads

pub returns-clause-passes : goal.returns-clause-passes
returns-clause-passes c =
    let o = c.operands.inside in
    let l = c.locals.inside in
    let r = c.run_straight in
    let stop = c.in_ok-stop.stop in
    let whole = c.deref_mut.result.now in
    let others = c.deref_mut-2.result.now in
    let here : operand_stack (lent o.floor whole) (o.top - o.floor) ≡ c.args.operands.now.here =
    lent_here o.floor whole o.cells.items c.deref_mut.ensures.value o.top c.operands.invariant.0 ∙ ap (λ s. s.here) c.operands.view_is in
    let cells : map I64 (lent l.base others) ≡ c.args.locals.now.here =
    lent_cells l.base others l.cells.items c.deref_mut-2.ensures.value ∙ ap (λ s. s.here) c.locals.view_is in
    let h : IsLent o.floor o.cells.len whole r.new.cells o.cells.items = record {
      same = c.deref_mut.ensures.value;
      all = omega (arith, c.deref_mut.ensures.len);
      within = omega (arith, ap (λ k. length k) c.deref_mut.ensures.value, c.operands.invariant.0, c.operands.invariant.1);
      kept = omega (arith, r.auto.cells);
    } in
    let g : IsLent l.base l.cells.len others r.new.locals l.cells.items = record {
      same = c.deref_mut-2.ensures.value;
      all = omega (arith, c.deref_mut-2.ensures.len);
      within = omega (arith, ap (λ k. length k) c.deref_mut-2.ensures.value, c.locals.invariant.0);
      kept = omega (arith, r.auto.locals);
    } in
    passes_same c.args.program.module.now max_count (code_of c.args.code.now) (code_of stop.code.now) (operand_stack (lent o.floor whole) (o.top - o.floor)) c.args.operands.now.here (map I64 (lent l.base others)) c.args.locals.now.here here cells c.args.globals.now.here c.args.bytes.now c.args.host.now r.new.host c.args.count
    (reverse (drop o.floor (held (o.floor + stop.top) (given_back o.floor o.cells.len whole r.new.cells o.cells.items)))) (operand_stack r.new.cells stop.top) (drop l.base (map I64 (given_back l.base l.cells.len others r.new.locals l.cells.items))) (map I64 r.new.locals)
    (back_here o.floor o.cells.len whole r.new.cells o.cells.items h stop.top) (back_cells l.base l.cells.len others r.new.locals l.cells.items g) r.new.globals.here r.new.bytes stop.count c.in_ok-stop.ensures.passes

pub returns-clause-below : goal.returns-clause-below
returns-clause-below c =
    let o = c.operands.inside in
    let r = c.run_straight in
    let whole = c.deref_mut.result.now in
    let h : IsLent o.floor o.cells.len whole r.new.cells o.cells.items = record {
      same = c.deref_mut.ensures.value;
      all = omega (arith, c.deref_mut.ensures.len);
      within = omega (arith, ap (λ k. length k) c.deref_mut.ensures.value, c.operands.invariant.0, c.operands.invariant.1);
      kept = omega (arith, r.auto.cells);
    } in
    back_lower o.floor o.cells.len whole r.new.cells o.cells.items h (o.floor + c.in_ok-stop.stop.top) o.top (omega arith) c.operands.invariant.0 ∙ ap (λ s. s.below) c.operands.view_is

pub returns-clause-locals_below : goal.returns-clause-locals_below
returns-clause-locals_below c =
    let l = c.locals.inside in
    let r = c.run_straight in
    let others = c.deref_mut-2.result.now in
    let g : IsLent l.base l.cells.len others r.new.locals l.cells.items = record {
      same = c.deref_mut-2.ensures.value;
      all = omega (arith, c.deref_mut-2.ensures.len);
      within = omega (arith, ap (λ k. length k) c.deref_mut-2.ensures.value, c.locals.invariant.0);
      kept = omega (arith, r.auto.locals);
    } in
    let with_values : List Value → Below = λ (v : List Value). record { values = v; room = l.room } in
    ap with_values (back_under l.base l.cells.len others r.new.locals l.cells.items g) ∙ ap (λ s. s.below) c.locals.view_is

pub returns-in_err-stop-clause-below : goal.returns-in_err-stop-clause-below
returns-in_err-stop-clause-below c =
    let o = c.operands.inside in
    let r = c.run_straight in
    let whole = c.deref_mut.result.now in
    let h : IsLent o.floor o.cells.len whole r.new.cells o.cells.items = record {
      same = c.deref_mut.ensures.value;
      all = omega (arith, c.deref_mut.ensures.len);
      within = omega (arith, ap (λ k. length k) c.deref_mut.ensures.value, c.operands.invariant.0, c.operands.invariant.1);
      kept = omega (arith, r.auto.cells);
    } in
    back_lower o.floor o.cells.len whole r.new.cells o.cells.items h o.top o.top c.operands.invariant.0 c.operands.invariant.0 ∙ ap (λ s. s.below) c.operands.view_is

pub returns-in_err-stop-clause-locals_below : goal.returns-in_err-stop-clause-locals_below
returns-in_err-stop-clause-locals_below c =
    let l = c.locals.inside in
    let r = c.run_straight in
    let others = c.deref_mut-2.result.now in
    let g : IsLent l.base l.cells.len others r.new.locals l.cells.items = record {
      same = c.deref_mut-2.ensures.value;
      all = omega (arith, c.deref_mut-2.ensures.len);
      within = omega (arith, ap (λ k. length k) c.deref_mut-2.ensures.value, c.locals.invariant.0);
      kept = omega (arith, r.auto.locals);
    } in
    let with_values : List Value → Below = λ (v : List Value). record { values = v; room = l.room } in
    ap with_values (back_under l.base l.cells.len others r.new.locals l.cells.items g) ∙ ap (λ s. s.below) c.locals.view_is

pub returns-in_err-stop-clause-sends : goal.returns-in_err-stop-clause-sends
returns-in_err-stop-clause-sends c =
    let o = c.operands.inside in
    let l = c.locals.inside in
    let whole = c.deref_mut.result.now in
    let others = c.deref_mut-2.result.now in
    let here : operand_stack (lent o.floor whole) (o.top - o.floor) ≡ c.args.operands.now.here =
    lent_here o.floor whole o.cells.items c.deref_mut.ensures.value o.top c.operands.invariant.0 ∙ ap (λ s. s.here) c.operands.view_is in
    let cells : map I64 (lent l.base others) ≡ c.args.locals.now.here =
    lent_cells l.base others l.cells.items c.deref_mut-2.ensures.value ∙ ap (λ s. s.here) c.locals.view_is in
    on_any _ _ (sends_same c.args.program.module.now max_count (code_of c.args.code.now) (code_of c.args.code.now) (operand_stack (lent o.floor whole) (o.top - o.floor)) c.args.operands.now.here (map I64 (lent l.base others)) c.args.locals.now.here here cells c.args.globals.now.here c.args.bytes.now c.args.host.now c.args.host.now c.args.count c.in_err-stop.ensures.sends)

pub invariant_of-operands : goal.invariant_of-operands
invariant_of-operands c =
    let o = c.operands.inside in
    let part = c.run_straight.new.cells in
    let whole = c.deref_mut.result.now in
    let h : IsLent o.floor o.cells.len whole part o.cells.items = record {
      same = c.deref_mut.ensures.value;
      all = omega (arith, c.deref_mut.ensures.len);
      within = omega (arith, ap (λ k. length k) c.deref_mut.ensures.value, c.operands.invariant.0, c.operands.invariant.1);
      kept = omega (arith, c.run_straight.auto.cells);
    } in
    (c.operands.invariant.0, subst (λ n. o.top ≤ n) (sym (back_long o.floor o.cells.len whole part o.cells.items h)) c.operands.invariant.1)

pub invariant_of-locals : goal.invariant_of-locals
invariant_of-locals c =
    let l = c.locals.inside in
    let part = c.run_straight.new.locals in
    let others = c.deref_mut-2.result.now in
    let g : IsLent l.base l.cells.len others part l.cells.items = record {
      same = c.deref_mut-2.ensures.value;
      all = omega (arith, c.deref_mut-2.ensures.len);
      within = omega (arith, ap (λ k. length k) c.deref_mut-2.ensures.value, c.locals.invariant.0);
      kept = omega (arith, c.run_straight.auto.locals);
    } in
    (subst (λ n. l.base ≤ n) (sym (back_long l.base l.cells.len others part l.cells.items g)) c.locals.invariant.0, c.locals.invariant.1)

pub invariant_of-operands-2 : goal.invariant_of-operands-2
invariant_of-operands-2 c =
    let o = c.operands.inside in
    let part = c.run_straight.new.cells in
    let whole = c.deref_mut.result.now in
    let h : IsLent o.floor o.cells.len whole part o.cells.items = record {
      same = c.deref_mut.ensures.value;
      all = omega (arith, c.deref_mut.ensures.len);
      within = omega (arith, ap (λ k. length k) c.deref_mut.ensures.value, c.operands.invariant.0, c.operands.invariant.1);
      kept = omega (arith, c.run_straight.auto.cells);
    } in
    let long = part_long o.floor o.cells.len whole part o.cells.items h in
    let fits : o.floor + c.in_ok-stop.stop.top ≤ length o.cells.items =
    omega (arith, c.in_ok-stop.ensures.within, long, ap (λ k. length k) c.deref_mut.ensures.value, h.within) in
    (omega arith, subst (λ n. o.floor + c.in_ok-stop.stop.top ≤ n) (sym (back_long o.floor o.cells.len whole part o.cells.items h)) fits)

pub invariant_of-locals-2 : goal.invariant_of-locals-2
invariant_of-locals-2 c =
    let l = c.locals.inside in
    let part = c.run_straight.new.locals in
    let others = c.deref_mut-2.result.now in
    let g : IsLent l.base l.cells.len others part l.cells.items = record {
      same = c.deref_mut-2.ensures.value;
      all = omega (arith, c.deref_mut-2.ensures.len);
      within = omega (arith, ap (λ k. length k) c.deref_mut-2.ensures.value, c.locals.invariant.0);
      kept = omega (arith, c.run_straight.auto.locals);
    } in
    (subst (λ n. l.base ≤ n) (sym (back_long l.base l.cells.len others part l.cells.items g)) c.locals.invariant.0, c.locals.invariant.1)
