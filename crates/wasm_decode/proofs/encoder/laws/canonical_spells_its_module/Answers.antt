use Rattle.wasm_decode.specs.Canonical.{canonical}
use Rattle.wasm_decode.proofs.CanonicalModules.{canonical_spelled}
use Rattle.wasm_decode.proofs.encoder.laws.canonical_spells_its_module.Goals as goal

pub returns-clause-spells : goal.returns-clause-spells
returns-clause-spells c = λ m held within small. canonical_spelled m held within small

pub returns-clause-alone : goal.returns-clause-alone
returns-clause-alone c = λ m n held within small spelled.
    c.spells_one_module.ensures (canonical m) n m spelled (canonical_spelled m held within small)
