use Rattle.std.proofs.Common.{rules}
use Rattle.superstep.proofs.Runs.{has_ended}
use Rattle.superstep.proofs.ending.tell_end.Goals as goal

pub returns-clause-end : goal.returns-clause-end
returns-clause-end c = λ work. has_ended work c.args.state.now _ (search rules)
