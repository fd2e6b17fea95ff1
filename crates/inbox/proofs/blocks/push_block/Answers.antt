use Rattle.inbox.proofs.Filed.{ids_more, none_more}
use Rattle.inbox.proofs.blocks.push_block.Goals as goal

pub returns-clause-ids : goal.returns-clause-ids
returns-clause-ids c = rw c.in_ok-push.ensures.items (ids_more c.args.blocks.now.items _)

pub returns-clause-none : goal.returns-clause-none
returns-clause-none c = λ all. rw c.in_ok-push.ensures.items (none_more c.args.blocks.now.items _ all c.in_ok-slips.ensures)
