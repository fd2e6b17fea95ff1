use Rattle.semantics.proofs.Outcomes.{has_one_outcome, told}
use Rattle.semantics.proofs.laws.calls_are_a_function.Goals as goal

pub returns : goal.returns
returns c = record { one = has_one_outcome; told = told }
