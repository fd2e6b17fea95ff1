use Rattle.std.proofs.Common.{refl}
use Rattle.inbox.proofs.Filed.{ids_stay, slips_more}
use Rattle.inbox.proofs.blocks.push_slip.Goals as goal

pub returns-clause-ids : goal.returns-clause-ids
returns-clause-ids c = ids_stay c.args.blocks.now.items c.args.number c.index_mut-block.result.now _ c.requires c.index_mut-block.ensures.value refl

pub returns-clause-pushed : goal.returns-clause-pushed
returns-clause-pushed c = slips_more c.args.blocks.now.items c.args.number c.index_mut-block.result.now _ c.args.slip c.requires c.index_mut-block.ensures.value c.in_ok-push.ensures
