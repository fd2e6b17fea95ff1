use Rattle.inbox.proofs.InOrder.{in_order}
use Rattle.inbox.proofs.laws.letters_can_be_ordered.Goals as goal

pub returns : goal.returns
returns c = in_order
