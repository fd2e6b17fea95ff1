use Rattle.std.proofs.Common.{◌≡◌, ◌++◌, length, take}
use Rattle.std.specs.List.{flat_map}
use Rattle.leb.specs.Spelling.{u32_spelling}
use Rattle.wasm_decode.specs.Canonical.{function_bytes}
use Rattle.wasm_decode.proofs.encoder.functions.write_functions.Given as goal

abbrev pub invariant-loop-function : goal.invariant-loop-function
invariant-loop-function l =
    l.out.items ≡ (l.fn.out.items ++ u32_spelling (length l.functions)) ++ flat_map function_bytes (take l.function-index l.functions)
