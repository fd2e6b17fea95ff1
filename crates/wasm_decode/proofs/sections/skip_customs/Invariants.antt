use Rattle.std.proofs.Common.{length}
use Rattle.wasm_decode.specs.inside.ReadingModule.{skip_customs}
use Rattle.wasm_decode.proofs.Customs.{Skips}
use Rattle.wasm_decode.proofs.sections.skip_customs.Given as goal

abbrev pub invariant-each : goal.invariant-each
invariant-each l = Skips l.reader (skip_customs l.fn.reader)

abbrev pub decreases-each : goal.decreases-each
decreases-each l = length l.reader
