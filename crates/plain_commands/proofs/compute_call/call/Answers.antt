use Rattle.std.proofs.Common.{◌≡◌, inl, inr, subst, sym}
use Rattle.wasm_ast.specs.declared.module.Module.{Module}
use Rattle.plain_commands.specs.ComputeCall.{AreCallLines}
use Rattle.sources.proofs.Faults.{IfErr-along, IfOk-along, is_fault}
use Rattle.plain_commands.proofs.compute_call.call.Goals as goal

pub returns-in_err-verified-clause-answered : goal.returns-in_err-verified-clause-answered
returns-in_err-verified-clause-answered c = λ m lines spelled verified answers.
    rw (is_fault _ _ c.from_residual.ensures.1) (c.in_err-verified.ensures.only m spelled verified)

pub returns-in_err-verified-clause-refused : goal.returns-in_err-verified-clause-refused
returns-in_err-verified-clause-refused c = rw (is_fault _ _ c.from_residual.ensures.1) (inl c.in_err-verified.ensures.refused)

pub returns-clause-answer : goal.returns-clause-answer
returns-clause-answer c =
    IfOk-along c.answer.result
    (λ lines is. record { m = c.in_ok-verified.verified; loads = c.in_ok-verified.ensures.loaded; answers = is })
    c.answer.ensures.answer

pub returns-clause-answered : goal.returns-clause-answered
returns-clause-answered c = λ m lines spelled verified answers.
    let same : c.in_ok-verified.verified ≡ m = c.in_ok-verified.ensures.only m spelled verified in
    c.answer.ensures.answered lines (subst (λ (x : Module). AreCallLines x c.args.input.now lines) (sym same) answers)

pub returns-clause-refused : goal.returns-clause-refused
returns-clause-refused c =
    IfErr-along c.answer.result
    (λ fault is. inr (c.in_ok-verified.verified, c.in_ok-verified.ensures.loaded, is))
    c.answer.ensures.refused
