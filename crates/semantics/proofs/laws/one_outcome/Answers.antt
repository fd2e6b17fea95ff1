use Rattle.semantics.proofs.OneEnd.{outcome_is, trap_is, stuck_is, outcome_no_trap, outcome_not_stuck, trap_not_stuck}
use Rattle.semantics.proofs.laws.one_outcome.Goals as goal

pub returns-clause-outcome : goal.returns-clause-outcome
returns-clause-outcome c = outcome_is

pub returns-clause-trap : goal.returns-clause-trap
returns-clause-trap c = trap_is

pub returns-clause-stuck : goal.returns-clause-stuck
returns-clause-stuck c = stuck_is

pub returns-clause-outcome_no_trap : goal.returns-clause-outcome_no_trap
returns-clause-outcome_no_trap c = outcome_no_trap

pub returns-clause-outcome_not_stuck : goal.returns-clause-outcome_not_stuck
returns-clause-outcome_not_stuck c = outcome_not_stuck

pub returns-clause-trap_not_stuck : goal.returns-clause-trap_not_stuck
returns-clause-trap_not_stuck c = trap_not_stuck
