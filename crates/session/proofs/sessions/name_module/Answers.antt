use Rattle.std.proofs.Common.{rules}
use Rattle.session.proofs.sessions.name_module.Goals as goal

pub returns-in-Ok : goal.returns-in-Ok
returns-in-Ok c = search rules
