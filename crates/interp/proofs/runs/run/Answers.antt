use Rattle.std.proofs.Common.{◌+◌, ◌*◌, refl, sym, subst}
use Rattle.std.specs.Prelude.{IfOk}
use Rattle.wasm_ast.specs.declared.module.Module.{Module}
use Rattle.wasm_ast.specs.Limits.{IsWithinLimits}
use Rattle.verified.specs.Modules.{IsTyped}
use Rattle.verified.specs.Profile.{IsBounded}
use Rattle.semantics.specs.Bounded.{items_of}
use Rattle.semantics.specs.Call.{IsOutcome}
use Rattle.interp.specs.inside.Begun.{BeginsAt, IsDefinedAt}
use Rattle.interp.specs.inside.Walk.{max_count}
use Rattle.interp.proofs.Running.{begins_at, begins_with, bound_told, defined_at, ends_at, ends_sooner, fails_never, few_of_its_own}
use Rattle.interp.proofs.Sending.{silent_ok}
use Rattle.interp.proofs.runs.run.Goals as goal

pub defined-definition-requires-clause-defined : goal.defined-definition-requires-clause-defined
defined-definition-requires-clause-defined c =
    let told = c.program_for-program.ensures in
    let b = begins_at c.args.verified.now told.typed told.bounded c.compute.result c.compute.ensures c.args.input.now in
    subst (λ (m : Module). IsDefinedAt m c.compute.result) (sym told.same) (defined_at c.args.verified.now c.compute.result b)

pub call-requires-clause-typed : goal.call-requires-clause-typed
call-requires-clause-typed c = subst IsTyped (sym c.requires.fits) c.program_for-program.ensures.typed

pub call-requires-clause-bounded : goal.call-requires-clause-bounded
call-requires-clause-bounded c = subst IsBounded (sym c.requires.fits) c.program_for-program.ensures.bounded

pub call-requires-clause-within : goal.call-requires-clause-within
call-requires-clause-within c = subst IsWithinLimits (sym c.requires.fits) c.program_for-program.ensures.within

pub call-requires-clause-begins : goal.call-requires-clause-begins
call-requires-clause-begins c =
    let told = c.program_for-program.ensures in
    let b = begins_at c.args.verified.now told.typed told.bounded c.compute.result c.compute.ensures c.args.input.now in
    begins_with c.program_for-program.result.module.now c.compute.result c.defined-definition.result.function.now (subst (λ (m : Module). BeginsAt m c.compute.result) (sym told.same) b) c.defined-definition.ensures.there

pub call-requires-clause-few : goal.call-requires-clause-few
call-requires-clause-few c =
    let told = c.program_for-program.ensures in
    few_of_its_own c.program_for-program.result.module.now (subst IsWithinLimits (sym told.same) told.within) c.compute.result c.defined-definition.result.function.now c.defined-definition.ensures.there

pub call-requires-clause-ends : goal.call-requires-clause-ends
call-requires-clause-ends c =
    let told = c.program_for-program.ensures in
    let most = c.size.result * (1 + items_of c.args.input.now) in
    λ x starts. ends_sooner c.program_for-program.result.module.now x most max_count c.units_fit.ensures
    (ends_at c.program_for-program.result.module.now c.args.verified.now told.same told.typed told.bounded c.args.input.now c.size.result c.size.ensures most refl x starts)

pub returns-clause-outcome : goal.returns-clause-outcome
returns-clause-outcome c =
    subst (λ (m : Module). IfOk c.call.result (IsOutcome m c.args.input.now)) c.program_for-program.ensures.same c.call.ensures.outcome

pub returns-clause-units : goal.returns-clause-units
returns-clause-units c =
    let told = c.program_for-program.ensures in
    bound_told c.call.result c.args.verified.now told.typed told.bounded c.args.input.now
    (subst (λ (m : Module). IfOk c.call.result (IsOutcome m c.args.input.now)) told.same c.call.ensures.outcome)

pub returns-clause-fails_never : goal.returns-clause-fails_never
returns-clause-fails_never c = let told = c.program_for-program.ensures in fails_never c.args.verified.now told.typed told.bounded c.args.input.now

pub returns-clause-reserved : goal.returns-clause-reserved
returns-clause-reserved c =
    let told = c.program_for-program.ensures in
    silent_ok c.call.result c.program_for-program.result.module.now c.args.verified.now told.same told.typed told.bounded told.within c.args.input.now c.call.ensures.sends
