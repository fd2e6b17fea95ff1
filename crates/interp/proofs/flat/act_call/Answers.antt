use Rattle.std.proofs.Common.{◌≡◌, ℕ, Some, slice_get, sym, ◌∙◌, subst}
use Rattle.verified.specs.declared.body.FlatInstr.TheVariants as flat
use Rattle.interp.specs.inside.OperandStack.{operand_stack}
use Rattle.interp.specs.inside.Straight.{GoesBeside}
use Rattle.interp.proofs.Passing.{host_goes_beside, host_sends_beside}
use Rattle.interp.proofs.Sending.{on_any}
use Rattle.interp.proofs.flat.act_call.Goals as goal

pub returns-in_err-call_host-in-Some-clause-sends : goal.returns-in_err-call_host-in-Some-clause-sends
returns-in_err-call_host-in-Some-clause-sends c =
    let found : Some c.in-Some.call ≡ slice_get c.args.program.calls.now c.args.number = sym c.in-Some.is ∙ c.host_call.ensures in
    on_any _ _ (host_sends_beside c.args.program.module.now c.args.program.calls.now c.requires.calls c.args.number c.in-Some.call found (operand_stack c.args.cells.now c.args.top) c.args.host.now c.in_err-call_host-in-Some.ensures.fails)

pub returns-in_ok-call_host-in-Some-clause-goes : goal.returns-in_ok-call_host-in-Some-clause-goes
returns-in_ok-call_host-in-Some-clause-goes c =
    let m = c.args.program.module.now in
    let found : Some c.in-Some.call ≡ slice_get c.args.program.calls.now c.args.number = sym c.in-Some.is ∙ c.host_call.ensures in
    let old = operand_stack c.args.cells.now c.args.top in
    let new = operand_stack c.call_host.new.cells c.in_ok-call_host-in-Some.field-0 in
    let goes = host_goes_beside m c.args.program.calls.now c.requires.calls c.args.number c.in-Some.call found old new c.args.host.now c.call_host.new.vertex c.in_ok-call_host-in-Some.ensures.acts in
    subst (λ (k : ℕ). GoesBeside m (flat.Call c.args.number) old c.args.host.now new c.call_host.new.vertex k) (sym c.host_units.ensures) goes
