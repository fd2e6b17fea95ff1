use Rattle.inbox.proofs.OneOrder.{one_order}
use Rattle.inbox.proofs.laws.letters_have_one_order.Goals as goal

pub returns : goal.returns
returns c = one_order
