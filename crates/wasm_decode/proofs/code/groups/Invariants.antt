use Rattle.std.proofs.Common.{◌≡◌, ◌-◌}
use Rattle.wasm_decode.specs.inside.ReadingModule.{groups_at}
use Rattle.wasm_items.proofs.Loops.{behind}
use Rattle.wasm_decode.proofs.code.groups.Given as goal

abbrev pub invariant-loop : goal.invariant-loop
invariant-loop l = behind l.locals.items (groups_at (l.count - l.counter) l.room l.reader) ≡ groups_at l.count l.fn.room l.fn.reader
