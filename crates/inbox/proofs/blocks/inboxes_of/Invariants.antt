use Rattle.std.proofs.Common.{take}
use Rattle.inbox.specs.inside.Slips.{AreInboxesOf}
use Rattle.inbox.proofs.blocks.inboxes_of.Given as goal

abbrev pub invariant-loop-index : goal.invariant-loop-index
invariant-loop-index l = AreInboxesOf (take l.index l.slips) l.count l.inboxes.items
