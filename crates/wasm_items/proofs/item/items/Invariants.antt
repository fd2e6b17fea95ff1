use Rattle.std.proofs.Common.{◌≡◌, ◌-◌}
use Rattle.wasm_items.specs.inside.Reading.{items_at}
use Rattle.wasm_items.proofs.Loops.{behind}
use Rattle.wasm_items.proofs.item.items.Given as goal

abbrev pub invariant-loop : goal.invariant-loop
invariant-loop g l =
    behind l.all.items (items_at g.T.Item.item_at (l.count - l.counter) l.reader) ≡ items_at g.T.Item.item_at l.count l.fn.reader
