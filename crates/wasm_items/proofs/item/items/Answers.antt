use Rattle.std.proofs.lemmas.Result.{err_from_is_err_and}
use Rattle.wasm_items.specs.inside.Reading.{items_at}
use Rattle.wasm_items.proofs.Loops.{items_go_on, items_fail, items_done}
use Rattle.wasm_items.proofs.item.items.Goals as goal

pub returns-in_err-item : goal.returns-in_err-item
returns-in_err-item g c =
    let p = err_from_is_err_and c.from_residual.result c.from_residual.ensures.1 in
    let item = g.T.Item.item_at in
    rw (p.1, p.2) (items_fail c.in_err-item.field-0.0 item c.loop.all.items c.args.count c.loop.counter c.loop.reader (items_at item c.args.count c.args.reader.now) c.loop-test.true c.in_err-item.ensures c.loop.invariant)

pub loop-preserved : goal.loop-preserved
loop-preserved g c =
    let item = g.T.Item.item_at in
    rw c.in_ok-push.ensures.items (items_go_on item c.loop.all.items c.args.count c.loop.counter c.loop.reader c.read.new.reader c.in_ok-item.item (items_at item c.args.count c.args.reader.now) c.loop-test.true c.in_ok-item.ensures c.loop.invariant)

pub returns : goal.returns
returns g c =
    let item = g.T.Item.item_at in
    items_done item c.loop.all.items c.args.count c.loop.counter c.loop.reader (items_at item c.args.count c.args.reader.now) c.loop-test.false c.loop.invariant
