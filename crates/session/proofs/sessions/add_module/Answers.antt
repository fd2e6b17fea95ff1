use Rattle.std.proofs.Common.{rules}
use Rattle.session.proofs.sessions.add_module.Goals as goal

pub returns-in-Err-clause-answered : goal.returns-in-Err-clause-answered
returns-in-Err-clause-answered g c = search rules
