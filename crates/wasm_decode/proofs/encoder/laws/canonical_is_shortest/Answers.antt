use Rattle.wasm_decode.proofs.ShortestModules.{canonical_shortest, respelled}
use Rattle.wasm_decode.proofs.encoder.laws.canonical_is_shortest.Goals as goal

pub returns-clause-shortest : goal.returns-clause-shortest
returns-clause-shortest c = λ bytes m h. canonical_shortest m bytes h

pub returns-clause-spells : goal.returns-clause-spells
returns-clause-spells c = λ bytes m h. respelled m bytes h
