use Rattle.std.proofs.lemmas.Result.{IfOk-weaker}
use Rattle.explanations.proofs.explaining.recursive.Goals as goal

pub returns : goal.returns
returns c = IfOk-weaker c.ruled.result _ _ (λ told is. (c.recursion-advice.result, c.as_str.result.now, is)) c.ruled.ensures
