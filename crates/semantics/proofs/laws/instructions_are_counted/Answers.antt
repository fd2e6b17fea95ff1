use Rattle.semantics.proofs.Instructions.{outcome_counts, run_counts}
use Rattle.semantics.proofs.laws.instructions_are_counted.Goals as goal

pub returns-clause-run : goal.returns-clause-run
returns-clause-run c = run_counts

pub returns-clause-call : goal.returns-clause-call
returns-clause-call c = outcome_counts
