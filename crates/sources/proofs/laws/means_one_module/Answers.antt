use Rattle.std.proofs.Common.{subst}
use Rattle.sources.specs.Modules.{IsTakenFor, MeansBy}
use Rattle.sources.proofs.laws.means_one_module.Goals as goal

pub returns-clause-binary : goal.returns-clause-binary
returns-clause-binary c = λ path content m n binary first second.
    c.spells_one_module.ensures content m n (subst (λ b. MeansBy b content m) binary first) (subst (λ b. MeansBy b content n) binary second)

pub returns-clause-printed : goal.returns-clause-printed
returns-clause-printed c = λ path content m n text is means.
    let taken : IsTakenFor m content = subst (λ b. MeansBy b content m) text means in taken.is_printed n is
