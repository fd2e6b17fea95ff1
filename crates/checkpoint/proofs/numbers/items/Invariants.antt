use Rattle.std.proofs.Common.{◌≡◌, ◌-◌}
use Rattle.checkpoint.specs.Reading.{items_at}
use Rattle.checkpoint.proofs.Tools.{behind}
use Rattle.checkpoint.proofs.numbers.items.Given as goal

abbrev pub invariant-loop : goal.invariant-loop
invariant-loop g l =
    behind l.all.items (items_at g.T.Item.item_at (l.count - l.counter) l.rest) ≡ items_at g.T.Item.item_at l.count l.bytes
