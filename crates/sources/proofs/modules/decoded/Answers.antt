use Rattle.sources.proofs.Faults.{is_fault}
use Rattle.sources.proofs.modules.decoded.Goals as goal

pub returns-in_err-module-clause-found : goal.returns-in_err-module-clause-found
returns-in_err-module-clause-found c = rw (is_fault _ _ c.from_residual.ensures.1) c.in_err-module.ensures.only

pub returns-in_err-module-clause-only : goal.returns-in_err-module-clause-only
returns-in_err-module-clause-only c = rw (is_fault _ _ c.from_residual.ensures.1) c.in_err-module.ensures.only
