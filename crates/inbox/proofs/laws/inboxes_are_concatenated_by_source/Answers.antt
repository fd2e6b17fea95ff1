use Rattle.inbox.proofs.Concatenation.{concatenated}
use Rattle.inbox.proofs.OneOrder.{inbox_of-flat_map}
use Rattle.inbox.proofs.laws.inboxes_are_concatenated_by_source.Goals as goal

pub returns-clause-ordered : goal.returns-clause-ordered
returns-clause-ordered c = concatenated

pub returns-clause-inbox : goal.returns-clause-inbox
returns-clause-inbox c = inbox_of-flat_map
