use Rattle.std.proofs.Common.{◌++◌, ap, ◌∙◌}
use Rattle.wasm_items.proofs.Listed.{one_more, all_written}
use Rattle.wasm_items.proofs.encoder.parts.write_vector.Goals as goal

pub loop-item-preserved : goal.loop-item-preserved
loop-item-preserved g c =
    one_more g.T.Part.spelling _ _ _ c.args.items.now _ c.loop-item.item-index c.loop-item-test.true c.loop-item.invariant
    (c.in_ok-write.ensures ∙ ap (λ x. c.loop-item.out.items ++ g.T.Part.spelling x) c.item-item.is)

pub returns : goal.returns
returns g c = all_written g.T.Part.spelling _ _ c.args.items.now c.loop-item.item-index c.loop-item-test.false c.loop-item.invariant
