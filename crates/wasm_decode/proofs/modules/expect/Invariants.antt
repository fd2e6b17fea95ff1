use Rattle.std.proofs.Common.{◌≡◌, drop}
use Rattle.wasm_decode.specs.inside.ReadingModule.{after_bytes}
use Rattle.wasm_decode.proofs.modules.expect.Given as goal

abbrev pub invariant-loop-byte : goal.invariant-loop-byte
invariant-loop-byte l = after_bytes (drop l.byte-index l.wanted) l.reader ≡ after_bytes l.wanted l.fn.reader
