use Rattle.session.proofs.Answering.{ended_told}
use Rattle.session.proofs.sessions.values_of.Goals as goal

pub returns-in-Ended : goal.returns-in-Ended
returns-in-Ended c = ended_told c.args.held.now c.in-Ended.report c.values_text.result c.of.result c.in-Ended.is c.values_text.ensures c.of.ensures
