use Rattle.std.proofs.Common.{inl}
use Rattle.sources.proofs.Faults.{is_fault}
use Rattle.plain_commands.proofs.bounds.verify_file.Goals as goal

pub returns-in_err-verified-clause-refused : goal.returns-in_err-verified-clause-refused
returns-in_err-verified-clause-refused g c = rw (is_fault _ _ c.from_residual.ensures.1) c.in_err-verified.ensures.found

pub returns-in_err-text-clause-refused : goal.returns-in_err-text-clause-refused
returns-in_err-text-clause-refused g c = rw (is_fault _ _ c.from_residual-in_err-text.ensures.1) (inl (inl tt))

pub returns-clause-answered : goal.returns-clause-answered
returns-clause-answered g c = (c.in_ok-verified.verified, c.in_ok-verified.ensures.found, c.in_ok-text.ensures)
