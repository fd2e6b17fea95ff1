use Rattle.std.proofs.Common.{◌≡◌, sym, ◌∙◌}
use Rattle.wasm_items.specs.inside.Reading.{found}
use Rattle.wasm_decode.proofs.Again.{module_again}
use Rattle.wasm_decode.proofs.laws.spells_one_module.Goals as goal

pub returns : goal.returns
returns c bytes m n first second =
    let same : found m ≡ found n = sym (module_again bytes m first) ∙ module_again bytes n second in
    cc
