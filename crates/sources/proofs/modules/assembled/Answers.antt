use Rattle.sources.proofs.Faults.{is_fault}
use Rattle.sources.proofs.modules.assembled.Goals as goal

pub returns-in_err-module-clause-found : goal.returns-in_err-module-clause-found
returns-in_err-module-clause-found c =
    rw (is_fault _ _ c.from_residual.ensures.1)
    (λ n is. c.in_err-module.ensures.printed n is.within is.representable is.printed)

pub returns-in_err-module-clause-only : goal.returns-in_err-module-clause-only
returns-in_err-module-clause-only c = λ n is.
    rw (is_fault _ _ c.from_residual.ensures.1) (c.in_err-module.ensures.printed n is.within is.representable is.printed)

pub returns-clause-found : goal.returns-clause-found
returns-clause-found c = record {
  within = c.in_ok-module.ensures.within;
  is_printed = λ n is. c.in_ok-module.ensures.printed n is.within is.representable is.printed;
}

pub returns-clause-only : goal.returns-clause-only
returns-clause-only c = λ n is. c.in_ok-module.ensures.printed n is.within is.representable is.printed
