use Rattle.std.proofs.Common.{inl, inr, subst}
use Rattle.checkpoint.specs.Checkpoint.{IsCheckpointOf}
use Rattle.checkpoint.specs.Reading.{Fails, state_of}
use Rattle.sources.proofs.Faults.{is_fault}
use Rattle.conversions.proofs.upgrading.read_checkpoint.Goals as goal

pub returns-in_err-bytes-clause-found : goal.returns-in_err-bytes-clause-found
returns-in_err-bytes-clause-found g c = rw (is_fault _ _ c.from_residual.ensures.1) (inl c.in_err-bytes.ensures.found)

pub returns-in_err-state-clause-found : goal.returns-in_err-state-clause-found
returns-in_err-state-clause-found g c =
    rw (is_fault _ _ c.from_residual-in_err-state.ensures.1)
    (inr (
      c.in_ok-bytes.bytes.items,
      c.in_ok-bytes.ensures.found,
      subst (λ bytes. Fails c.in_err-state.field-0.0 (state_of bytes)) c.as_slice.ensures.value c.in_err-state.ensures.fault,
    ))

pub returns-clause-found : goal.returns-clause-found
returns-clause-found g c = (
  c.in_ok-bytes.bytes.items,
  c.in_ok-bytes.ensures.found,
  subst (λ bytes. IsCheckpointOf bytes c.in_ok-state.state) c.as_slice.ensures.value c.in_ok-state.ensures.found,
)
