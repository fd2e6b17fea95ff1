use Rattle.wasm_items.specs.Canonical.{table_bytes}
use Rattle.wasm_items.proofs.Listed.{one_more, all_written}
use Rattle.wasm_decode.proofs.encoder.modules.write_tables.Goals as goal

pub loop-limits-preserved : goal.loop-limits-preserved
loop-limits-preserved c =
    one_more table_bytes _ _ _ c.args.tables.now _ c.loop-limits.limits-index c.loop-limits-test.true c.loop-limits.invariant
    c.in_ok-write_table_type.ensures

pub returns : goal.returns
returns c = all_written table_bytes _ _ c.args.tables.now c.loop-limits.limits-index c.loop-limits-test.false c.loop-limits.invariant
