use Rattle.std.proofs.Common.{◌≡◌, ℕ, ◌+◌, length, map, refl, sym, ◌∙◌, subst, arith, rules}
use Rattle.wasm_ast.specs.declared.types.Value.TheVariants.{I64}
use Rattle.wasm_ast.specs.Code.{Code}
use Rattle.verified.specs.Plains.{plain_of}
use Rattle.verified.specs.View.{code_of, then_code}
use Rattle.interp.specs.inside.Flat.{FlatDid}
use Rattle.interp.specs.inside.OperandStack.{operand_stack}
use Rattle.interp.specs.inside.Straight.{Passes, SendsAmid, spot}
use Rattle.interp.proofs.Flats.{flat_keeps, here_of, passes_flat}
use Rattle.interp.proofs.Passing.{fewer_amid, flat_asked_amid, leads_on, room_amid, sends_on}
use Rattle.interp.proofs.OperandStacks.{operand_stack_long}
use Rattle.interp.proofs.Sending.{on_any}
use Rattle.interp.specs.inside.Walk.{max_count}
use Rattle.interp.proofs.straight.run_straight.Goals as goal

pub overflow_add-at : goal.overflow_add-at
overflow_add-at c =
    let m = c.args.program.module.now in
    let start = here_of c.args.cells.now c.args.top (code_of c.args.code.now) c.args.locals.now c.args.globals.now c.args.bytes.now c.args.host.now c.args.count in
    let item = c.take_item-item.result in
    let there = here_of c.args.cells.now c.args.top (code_of item.code.now) c.args.locals.now c.args.globals.now c.args.bytes.now c.take_item-item.new.host (c.args.count + item.units) in
    let on = c.take_item-item.ensures max_count c.args.count (operand_stack c.args.cells.now c.args.top) (map I64 c.args.locals.now) c.args.globals.now.here c.args.bytes.now in
    let room = room_amid m max_count (length c.args.cells.now) there (leads_on m max_count (length c.args.cells.now) start there c.requires.leads on) in
    omega (arith, room, c.from.ensures)

pub loop-first-init : goal.loop-first-init
loop-first-init c =
    let m = c.args.program.module.now in
    let start = here_of c.args.cells.now c.args.top (code_of c.args.code.now) c.args.locals.now c.args.globals.now c.args.bytes.now c.args.host.now c.args.count in
    let item = c.take_item-item.result in
    let on = c.take_item-item.ensures max_count c.args.count (operand_stack c.args.cells.now c.args.top) (map I64 c.args.locals.now) c.args.globals.now.here c.args.bytes.now in
    record {
      within = c.requires.within;
      more = omega arith;
      kept_globals = refl;
      kept_bytes = refl;
      passes = subst (λ (n : ℕ). Passes m max_count start (here_of c.args.cells.now c.args.top (code_of item.code.now) c.args.locals.now c.args.globals.now c.args.bytes.now c.take_item-item.new.host (c.args.count + n))) (sym c.from.ensures) on;
    }

pub act_flat-requires-clause-room : goal.act_flat-requires-clause-room
act_flat-requires-clause-room c =
    let m = c.args.program.module.now in
    let l = c.loop-first in
    let start = here_of c.args.cells.now c.args.top (code_of c.args.code.now) c.args.locals.now c.args.globals.now c.args.bytes.now c.args.host.now c.args.count in
    let here = here_of l.cells l.at.top (code_of l.at.code.now) l.locals l.globals l.bytes l.host l.at.count in
    let fewer = fewer_amid m max_count (length c.args.cells.now) here (leads_on m max_count (length c.args.cells.now) start here c.requires.leads l.invariant.passes) in
    omega (arith, fewer, operand_stack_long l.cells l.at.top l.invariant.within, l.auto.cells)

pub act_flat-requires-clause-asks : goal.act_flat-requires-clause-asks
act_flat-requires-clause-asks c =
    let m = c.args.program.module.now in
    let l = c.loop-first in
    let first = c.in-Some.first.now in
    let rest = code_of c.in-Some.rest.now in
    let begins : code_of l.at.code.now ≡ then_code first rest = search rules in
    let start = here_of c.args.cells.now c.args.top (code_of c.args.code.now) c.args.locals.now c.args.globals.now c.args.bytes.now c.args.host.now c.args.count in
    let here = here_of l.cells l.at.top (code_of l.at.code.now) l.locals l.globals l.bytes l.host l.at.count in
    flat_asked_amid m max_count c.args.program.calls.now c.requires.calls first rest (length c.args.cells.now) here begins (leads_on m max_count (length c.args.cells.now) start here c.requires.leads l.invariant.passes)

pub returns-in_err-act_flat-clause-sends : goal.returns-in_err-act_flat-clause-sends
returns-in_err-act_flat-clause-sends c =
    let m = c.args.program.module.now in
    let l = c.loop-first in
    let first = c.in-Some.first.now in
    let rest = code_of c.in-Some.rest.now in
    let begins : code_of l.at.code.now ≡ then_code first rest = search rules in
    let start = here_of c.args.cells.now c.args.top (code_of c.args.code.now) c.args.locals.now c.args.globals.now c.args.bytes.now c.args.host.now c.args.count in
    let here = here_of l.cells l.at.top (code_of l.at.code.now) l.locals l.globals l.bytes l.host l.at.count in
    let values = operand_stack l.cells l.at.top in
    let sends = c.in_err-act_flat.ensures.fails.sends rest max_count l.at.count (map I64 l.locals) l.globals.here l.bytes in
    let there = subst (λ (k : Code). SendsAmid m max_count (spot values k (map I64 l.locals) l.globals.here l.bytes l.host l.at.count)) (sym begins) sends in
    on_any _ _ (sends_on m max_count start here l.invariant.passes there)

pub overflow_add-at-in-Some-2 : goal.overflow_add-at-in-Some-2
overflow_add-at-in-Some-2 c =
    let m = c.args.program.module.now in
    let l = c.loop-first in
    let a = c.act_flat.new in
    let first = c.in-Some.first.now in
    let rest = code_of c.in-Some.rest.now in
    let by = c.in-Some-2.acted in
    let begins : code_of l.at.code.now ≡ then_code first rest = search rules in
    let did : FlatDid m (plain_of first) first by l.at.top l.cells a.cells l.locals a.locals l.globals a.globals l.bytes a.bytes l.host a.host = rw c.in-Some-2.is at c.in_ok-act_flat.ensures.did in
    let start = here_of c.args.cells.now c.args.top (code_of c.args.code.now) c.args.locals.now c.args.globals.now c.args.bytes.now c.args.host.now c.args.count in
    let there = here_of a.cells by.top rest a.locals a.globals a.bytes a.host (l.at.count + by.units) in
    let on = passes_flat m max_count start l.at.top l.cells a.cells l.locals a.locals l.globals a.globals l.bytes a.bytes l.host a.host l.at.count first rest (code_of l.at.code.now) by by.units refl begins did l.invariant.passes in
    let room = room_amid m max_count (length c.args.cells.now) there (leads_on m max_count (length c.args.cells.now) start there c.requires.leads on) in
    omega (arith, room, c.from-in-Some-2.ensures)

pub loop-first-preserved : goal.loop-first-preserved
loop-first-preserved c =
    let m = c.args.program.module.now in
    let l = c.loop-first in
    let a = c.act_flat.new in
    let first = c.in-Some.first.now in
    let rest = code_of c.in-Some.rest.now in
    let by = c.in-Some-2.acted in
    let begins : code_of l.at.code.now ≡ then_code first rest = search rules in
    let did : FlatDid m (plain_of first) first by l.at.top l.cells a.cells l.locals a.locals l.globals a.globals l.bytes a.bytes l.host a.host = rw c.in-Some-2.is at c.in_ok-act_flat.ensures.did in
    let start = here_of c.args.cells.now c.args.top (code_of c.args.code.now) c.args.locals.now c.args.globals.now c.args.bytes.now c.args.host.now c.args.count in
    let keeps = flat_keeps m max_count start l.at.top l.cells a.cells l.locals a.locals l.globals a.globals l.bytes a.bytes l.host a.host l.at.count (plain_of first) first by did in
    record {
      within = keeps.0;
      more = omega (arith, l.invariant.more);
      kept_globals = keeps.1 ∙ l.invariant.kept_globals;
      kept_bytes = keeps.2 ∙ l.invariant.kept_bytes;
      passes = passes_flat m max_count start l.at.top l.cells a.cells l.locals a.locals l.globals a.globals l.bytes a.bytes l.host a.host l.at.count first rest (code_of l.at.code.now) by c.from-in-Some-2.result c.from-in-Some-2.ensures begins did l.invariant.passes;
    }
