use Rattle.std.proofs.Common.{◌≡◌, inl, inr, subst, Ok}
use Rattle.std.specs.String.{string_bytes}
use Rattle.plain_commands.specs.Steps.{IsStepsFault, steps_of}
use Rattle.sources.proofs.Faults.{is_fault}
use Rattle.plain_commands.proofs.replay.read_steps.Goals as goal

pub returns-in_err-text-clause-found : goal.returns-in_err-text-clause-found
returns-in_err-text-clause-found g c = rw (is_fault _ _ c.from_residual.ensures.1) (inl c.in_err-text.ensures.found)

pub returns-in_err-steps-clause-found : goal.returns-in_err-steps-clause-found
returns-in_err-steps-clause-found g c =
    rw (is_fault _ _ c.from_residual-in_err-steps.ensures.1)
    (inr (
      string_bytes c.in_ok-text.text,
      c.in_ok-text.ensures.found,
      subst (λ text. IsStepsFault text c.in_err-steps.field-0.0) c.as_str.ensures.value c.in_err-steps.ensures,
    ))

pub returns-clause-found : goal.returns-clause-found
returns-clause-found g c = (
  string_bytes c.in_ok-text.text,
  c.in_ok-text.ensures.found,
  subst (λ text. steps_of text ≡ Ok c.in_ok-steps.steps.items) c.as_str.ensures.value c.in_ok-steps.ensures,
)
