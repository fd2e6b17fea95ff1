use Rattle.std.proofs.Common.{refl, rules}
use Rattle.wasm_ast.specs.Limits.{IsWithinLimits}
use Rattle.verified.specs.Modules.{IsTyped}
use Rattle.validate.specs.inside.Findings.{Denies}
use Rattle.validate.proofs.Whole.{settled, outer_denied}
use Rattle.validate.proofs.validation.check_module.Goals as goal

pub returns-in_err-check_outer : goal.returns-in_err-check_outer
returns-in_err-check_outer c =
    let m = c.args.module.now in
    let e = c.in_err-check_outer.field-0.0 in
    let denied : Denies e (IsTyped m × IsWithinLimits m) = outer_denied m c.in_ok-spaces.spaces e e c.in_ok-spaces.ensures refl c.in_err-check_outer.ensures in
    search rules

pub returns : goal.returns
returns c =
    let m = c.args.module.now in
    let within : IsWithinLimits m = search rules in
    settled m _ _ c.in_ok-spaces.spaces _ _ c.as_slice.ensures c.as_slice-2.ensures c.in_ok-spaces.ensures c.in_ok-define_globals.ensures c.in_ok-check_types.ensures within c.in_ok-check_outer.ensures c.check_inner.ensures
