use Rattle.std.proofs.Common.{sym, ap, ◌∙◌, subst}
use Rattle.wasm_ast.specs.declared.module.Module.{Module}
use Rattle.wasm_ast.specs.Limits.{IsWithinLimits}
use Rattle.interp.specs.declared.scratch.Lists.{Lists}
use Rattle.interp.specs.inside.Begun.{HasRoom}
use Rattle.interp.proofs.Staying.{in_room, start_room}
use Rattle.interp.specs.inside.Walk.{max_count}
use Rattle.interp.proofs.scratch.Scratch.call.Goals as goal

pub call_in-requires-clause-own : goal.call_in-requires-clause-own
call_in-requires-clause-own c =
    ap (λ (l : Lists). l.image) c.deref_mut-lists.ensures.value ∙ c.self.invariant.0 ∙ c.self.view_is ∙ sym c.requires.same

pub call_in-requires-clause-within : goal.call_in-requires-clause-within
call_in-requires-clause-within c = subst IsWithinLimits (sym c.requires.same) c.requires.within

pub call_in-requires-clause-room : goal.call_in-requires-clause-room
call_in-requires-clause-room c =
    let own = subst (λ (m : Module). HasRoom m c.self.inside.lists.value.walk.room) c.self.view_is c.self.invariant.1 in
    let has = subst (λ (l : Lists). HasRoom c.args.self.now l.walk.room) (sym c.deref_mut-lists.ensures.value) own in
    start_room c.args.self.now c.args.program.module.now (sym c.requires.same) c.args.definition.function.now c.deref_mut-lists.result.now.walk.room has c.requires.few

pub call_in-requires-clause-ends : goal.call_in-requires-clause-ends
call_in-requires-clause-ends c =
    let own = subst (λ (m : Module). HasRoom m c.self.inside.lists.value.walk.room) c.self.view_is c.self.invariant.1 in
    let has = subst (λ (l : Lists). HasRoom c.args.self.now l.walk.room) (sym c.deref_mut-lists.ensures.value) own in
    in_room c.args.self.now c.args.program.module.now (sym c.requires.same) c.requires.typed c.requires.bounded c.requires.within c.deref_mut-lists.result.now.walk.room has c.args.input.now max_count c.requires.ends
