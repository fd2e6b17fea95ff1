use Rattle.semantics.proofs.RunLaws.{stays}
use Rattle.semantics.proofs.laws.an_end_stays.Goals as goal

pub returns : goal.returns
returns c = stays
