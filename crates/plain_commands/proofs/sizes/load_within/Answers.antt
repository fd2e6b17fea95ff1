use Rattle.std.proofs.Common.{inl, inr}
use Rattle.sources.proofs.Faults.{is_fault}
use Rattle.plain_commands.proofs.sizes.load_within.Goals as goal

pub returns-in_err-verified-clause-found : goal.returns-in_err-verified-clause-found
returns-in_err-verified-clause-found g c = rw (is_fault _ _ c.from_residual.ensures.1) (inl c.in_err-verified.ensures.found)

pub returns-in_err-check_size-clause-found : goal.returns-in_err-check_size-clause-found
returns-in_err-check_size-clause-found g c =
    rw (is_fault _ _ c.from_residual-in_err-check_size.ensures.1)
    (inr (c.in_ok-verified.verified, c.in_ok-verified.ensures.found, c.in_err-check_size.ensures))

pub returns-clause-found : goal.returns-clause-found
returns-clause-found g c = record { loaded = c.in_ok-verified.ensures.found; sized = c.in_ok-check_size.ensures }
