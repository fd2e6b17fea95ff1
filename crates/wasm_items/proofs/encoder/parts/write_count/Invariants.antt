use Rattle.std.proofs.Common.{◌≡◌, ◌++◌, ◌-◌}
use Rattle.leb.specs.Spelling.{shortest_unsigned}
use Rattle.wasm_items.proofs.encoder.parts.write_count.Given as goal

abbrev pub invariant-loop : goal.invariant-loop
invariant-loop l = l.out.items ++ shortest_unsigned (5 - l.counter) l.rest ≡ l.fn.out.items ++ shortest_unsigned 5 l.fn.count
