use Rattle.std.proofs.Common.{append_assoc}
use Rattle.inbox.proofs.blocks.blocks_of.Goals as goal

pub loop-rest-preserved : goal.loop-rest-preserved
loop-rest-preserved c = record {
  ids = rw (c.in_ok-push_block.ensures.ids, append_assoc, ← c.split_at.ensures.by_index.0) c.loop-rest.invariant.ids;
  none = c.in_ok-push_block.ensures.none c.loop-rest.invariant.none;
}
