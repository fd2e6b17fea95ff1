use Rattle.std.proofs.Common.{◌∙◌, subst}
use Rattle.wasm_ast.specs.declared.module.Module.{Module}
use Rattle.verified.specs.View.{code_of}
use Rattle.interp.specs.inside.Begun.{IsReset, Sends}
use Rattle.interp.specs.inside.Place.{at, hosted, state_of}
use Rattle.interp.proofs.Resetting.{begins_reset}
use Rattle.interp.proofs.Running.{beginning_at, comes_to, concluded, leads_in_room}
use Rattle.interp.proofs.Sending.{on_any}
use Rattle.interp.specs.inside.Walk.{max_count}
use Rattle.interp.proofs.runs.call_in.Goals as goal

pub finish-requires-clause-ends : goal.finish-requires-clause-ends
finish-requires-clause-ends c =
    let m = c.args.program.module.now in
    let s = hosted c.reset.new.walk c.with_lists-host.result in
    let reset = subst (λ (k : Module). IsReset k c.args.definition.function.now c.reset.new.walk) c.requires.own c.reset.ensures.reset in
    let begins = begins_reset m c.args.definition.function.now c.args.input.now c.requires.begins c.reset.new.walk c.with_lists-host.result reset c.with_lists-host.ensures in
    let here = beginning_at m c.args.input.now s (code_of c.as_slice-code.result.now) c.args.definition.function.now.body (c.as_slice-code.ensures ∙ c.requires.flat) begins in
    leads_in_room m c.args.input.now s (code_of c.as_slice-code.result.now) max_count c.args.walk.now.room c.reset.ensures.room c.requires.ends here

pub returns-clause-outcome : goal.returns-clause-outcome
returns-clause-outcome c =
    let m = c.args.program.module.now in
    let s = hosted c.reset.new.walk c.with_lists-host.result in
    let reset = subst (λ (k : Module). IsReset k c.args.definition.function.now c.reset.new.walk) c.requires.own c.reset.ensures.reset in
    let begins = begins_reset m c.args.definition.function.now c.args.input.now c.requires.begins c.reset.new.walk c.with_lists-host.result reset c.with_lists-host.ensures in
    let b = beginning_at m c.args.input.now s (code_of c.as_slice-code.result.now) c.args.definition.function.now.body (c.as_slice-code.ensures ∙ c.requires.flat) begins in
    let final = state_of (hosted c.finish.new.self c.finish.new.host) c.in_ok-count.count in
    let ends = concluded m (at s (code_of c.as_slice-code.result.now) 0) max_count c.into_outcome.result final c.in_ok-count.ensures.concludes c.into_outcome.ensures in
    comes_to m c.args.input.now b.from c.into_outcome.result b.starts (ends b.from b.follows (c.requires.ends b.from b.starts).0)

pub returns-in_err-count-clause-sends : goal.returns-in_err-count-clause-sends
returns-in_err-count-clause-sends c =
    let m = c.args.program.module.now in
    let s = hosted c.reset.new.walk c.with_lists-host.result in
    let reset = subst (λ (k : Module). IsReset k c.args.definition.function.now c.reset.new.walk) c.requires.own c.reset.ensures.reset in
    let begins = begins_reset m c.args.definition.function.now c.args.input.now c.requires.begins c.reset.new.walk c.with_lists-host.result reset c.with_lists-host.ensures in
    let b = beginning_at m c.args.input.now s (code_of c.as_slice-code.result.now) c.args.definition.function.now.body (c.as_slice-code.ensures ∙ c.requires.flat) begins in
    let sends : Sends m c.args.input.now = (b.from, b.starts, c.in_err-count.ensures.sends b.from b.follows (c.requires.ends b.from b.starts).0) in
    on_any _ _ sends
