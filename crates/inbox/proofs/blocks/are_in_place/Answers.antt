use Rattle.std.proofs.Common.{rules, true, ◌≡◌}
use Rattle.inbox.proofs.Filed.{places_more}
use Rattle.inbox.proofs.blocks.are_in_place.Goals as goal

pub loop-index-preserved : goal.loop-index-preserved
loop-index-preserved c =
    let yes : c.has_in_order.result ≡ true = search rules in
    places_more c.args.grid c.args.blocks.now c.loop-index.index c.index-blocks-index.result c.loop-index-test.true c.loop-index.invariant (c.has_in_order.ensures yes)
