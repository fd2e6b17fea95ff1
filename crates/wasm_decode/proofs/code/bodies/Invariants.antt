use Rattle.std.proofs.Common.{◌≡◌, drop}
use Rattle.wasm_decode.specs.inside.ReadingModule.{bodies_at}
use Rattle.wasm_items.proofs.Loops.{behind}
use Rattle.wasm_decode.proofs.code.bodies.Given as goal

abbrev pub invariant-loop-type_number : goal.invariant-loop-type_number
invariant-loop-type_number l =
    behind l.functions.items (bodies_at l.types (drop l.type_number-index l.type_numbers) l.reader) ≡ bodies_at l.types l.type_numbers l.fn.reader
