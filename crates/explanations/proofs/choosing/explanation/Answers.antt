use Rattle.explanations.proofs.Answering.{explained, whether}
use Rattle.explanations.proofs.choosing.explanation.Goals as goal

pub returns-clause-whether : goal.returns-clause-whether
returns-clause-whether c = whether c.args.source c.args.fault.now c.answer.result c.answer.ensures

pub returns-clause-explained : goal.returns-clause-explained
returns-clause-explained c = explained c.args.source c.args.fault.now c.answer.result c.answer.ensures
