-- The steps from one group of sections to the next.
use Rattle.std.proofs.Common.{◌≡◌, ℕ, List, Some, refl}
use Rattle.wasm_ast.specs.declared.module.Module.{Module}
use Rattle.wasm_ast.specs.Limits.{imported_functions}
use Rattle.wasm_decode.specs.inside.ReadingModule.{skip_customs, types_at, numbers_at, remaining_at, filled_at}

-- what is read behind the type numbers, where so many functions are imported
pub filled_step : (bytes first middle rest ts : List ℕ) (old m : Module) (imported : ℕ) → skip_customs bytes ≡ Some first
    → types_at old first ≡ Some (m, middle) → imported ≡ imported_functions m.imports → numbers_at imported middle ≡ Some (ts, rest)
    → filled_at old bytes ≡ remaining_at ts m rest
unfolding filled_at
filled_step bytes first middle rest ts old m imported h types count numbers =
    let numbers1 = rw count at numbers in
    rw (h, types, numbers1) refl
