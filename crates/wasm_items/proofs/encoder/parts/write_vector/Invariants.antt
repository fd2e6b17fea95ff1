use Rattle.std.proofs.Common.{◌≡◌, ◌++◌, length, take}
use Rattle.std.specs.List.{flat_map}
use Rattle.leb.specs.Spelling.{u32_spelling}
use Rattle.wasm_items.proofs.encoder.parts.write_vector.Given as goal

abbrev pub invariant-loop-item : goal.invariant-loop-item
invariant-loop-item g l =
    l.out.items ≡ (l.fn.out.items ++ u32_spelling (length l.items)) ++ flat_map g.T.Part.spelling (take l.item-index l.items)
