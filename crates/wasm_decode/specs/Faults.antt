-- How a fault is printed.
use Rattle.std.specs.Prelude.{List, ℕ, codes}
use Rattle.wasm_decode.specs.declared.encoder.fault.EncodeFault.{EncodeFault}
use Rattle.wasm_decode.specs.declared.encoder.fault.EncodeFault.TheVariants as encode

abbrev pub encode_word : EncodeFault → List ℕ
encode_word encode.OverLimit = codes "OverLimit"
encode_word encode.OutOfMemory = codes "OutOfMemory"
