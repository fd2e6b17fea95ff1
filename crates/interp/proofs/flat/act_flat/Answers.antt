use Rattle.std.proofs.Common.{map}
use Rattle.wasm_ast.specs.declared.types.Value.TheVariants.{I64}
use Rattle.interp.specs.inside.OperandStack.{operand_stack}
use Rattle.interp.proofs.Asking.{one_there}
use Rattle.interp.proofs.Flats.{call_asks, call_did, call_fails, call_stops, ends_stops, known_asks, known_did, zero_asks, zero_did, zero_stops}
use Rattle.interp.proofs.flat.act_flat.Goals as goal

pub act_operator-requires-clause-asks : goal.act_operator-requires-clause-asks
act_operator-requires-clause-asks c =
    known_asks c.args.program.calls.now c.args.first.now _ c.in-Operator.ensures (operand_stack c.args.cells.now c.args.top) (map I64 c.args.locals.now) c.args.globals.now.here c.args.bytes.now c.requires.asks

pub returns-in-Operator-clause-did : goal.returns-in-Operator-clause-did
returns-in-Operator-clause-did c =
    known_did c.args.program.module.now c.args.first.now _ c.in-Operator.ensures c.act_operator.result c.args.top c.args.cells.now c.act_operator.new.cells c.args.locals.now c.args.locals.now c.args.globals.now c.args.globals.now c.args.bytes.now c.args.bytes.now c.args.host.now (c.act_operator.ensures c.args.locals.now c.args.globals.now c.args.bytes.now)

pub act_known-requires-clause-asks : goal.act_known-requires-clause-asks
act_known-requires-clause-asks c =
    known_asks c.args.program.calls.now c.args.first.now _ c.in-Plain.ensures (operand_stack c.args.cells.now c.args.top) (map I64 c.args.locals.now) c.args.globals.now.here c.args.bytes.now c.requires.asks

pub returns-in-Plain-clause-did : goal.returns-in-Plain-clause-did
returns-in-Plain-clause-did c =
    known_did c.args.program.module.now c.args.first.now _ c.in-Plain.ensures c.act_known.result c.args.top c.args.cells.now c.act_known.new.cells c.args.locals.now c.act_known.new.locals c.args.globals.now c.act_known.new.globals c.args.bytes.now c.act_known.new.bytes c.args.host.now c.act_known.ensures

pub act_call-requires-clause-asks : goal.act_call-requires-clause-asks
act_call-requires-clause-asks c =
    call_asks c.args.program.calls.now c.in-Call.number c.args.first.now c.in-Call.ensures (operand_stack c.args.cells.now c.args.top) (map I64 c.args.locals.now) c.args.globals.now.here c.args.bytes.now c.requires.asks

pub returns-in-Call-clause-did : goal.returns-in-Call-clause-did
returns-in-Call-clause-did c =
    call_did c.args.program.module.now c.in-Call.number c.args.first.now c.in-Call.ensures c.act_call.result c.args.top c.args.cells.now c.act_call.new.cells c.args.locals.now c.args.globals.now c.args.bytes.now c.args.host.now c.act_call.new.host c.act_call.ensures.goes c.act_call.ensures.within

pub returns-in-Call-clause-stops : goal.returns-in-Call-clause-stops
returns-in-Call-clause-stops c =
    call_stops c.args.program.calls.now c.in-Call.number c.args.first.now c.in-Call.ensures c.act_call.result c.args.cells.now c.act_call.new.cells c.args.locals.now c.args.globals.now c.args.bytes.now c.args.host.now c.act_call.new.host c.act_call.ensures.other c.act_call.ensures.cells c.act_call.ensures.host

pub returns-in-Call-clause-fails : goal.returns-in-Call-clause-fails
returns-in-Call-clause-fails c =
    call_fails c.args.program.module.now c.in-Call.number c.args.first.now c.in-Call.ensures c.act_call.result _ c.args.host.now c.args.globals.now c.args.bytes.now c.act_call.ensures.sends

pub pass_zero-requires-clause-there : goal.pass_zero-requires-clause-there
pass_zero-requires-clause-there c =
    one_there _ (zero_asks c.args.program.calls.now c.args.first.now c.in-Zero.ensures (operand_stack c.args.cells.now c.args.top) (map I64 c.args.locals.now) c.args.globals.now.here c.args.bytes.now c.requires.asks)

pub returns-in-Zero-clause-did : goal.returns-in-Zero-clause-did
returns-in-Zero-clause-did c =
    zero_did c.args.program.module.now c.args.first.now c.pass_zero.result c.args.top c.args.cells.now c.args.locals.now c.args.globals.now c.args.bytes.now c.args.host.now c.in-Zero.ensures.skips c.in-Zero.ensures.none c.pass_zero.ensures

pub returns-in-Zero-clause-stops : goal.returns-in-Zero-clause-stops
returns-in-Zero-clause-stops c =
    zero_stops c.args.program.calls.now c.args.first.now c.in-Zero.ensures.ends c.pass_zero.result c.args.cells.now c.args.locals.now c.args.globals.now c.args.bytes.now c.args.host.now

pub returns-in-Other-clause-stops : goal.returns-in-Other-clause-stops
returns-in-Other-clause-stops c =
    ends_stops c.args.program.calls.now c.args.first.now c.in-Other.ensures c.args.cells.now c.args.locals.now c.args.globals.now c.args.bytes.now c.args.host.now
