use Rattle.std.proofs.Common.{◌≡◌, ◌++◌, length, take}
use Rattle.std.specs.List.{flat_map}
use Rattle.leb.specs.Spelling.{u32_spelling}
use Rattle.wasm_items.specs.Canonical.{table_bytes}
use Rattle.wasm_decode.proofs.encoder.modules.write_tables.Given as goal

abbrev pub invariant-loop-limits : goal.invariant-loop-limits
invariant-loop-limits l =
    l.out.items ≡ (l.fn.out.items ++ u32_spelling (length l.tables)) ++ flat_map table_bytes (take l.limits-index l.tables)
