use Rattle.std.proofs.Common.{rules}
use Rattle.session.proofs.serving.is_quit.Goals as goal

pub returns-in_default : goal.returns-in_default
returns-in_default c = search rules
