-- Cells as they are stored, and as values.
use Rattle.std.proofs.Common.{◌≡◌, ℕ, zero, suc, List, [], ◌∷◌, map, take, refl, sym, ap, ◌∙◌}
use Rattle.std.specs.Prelude.{slice_set}
use Rattle.std.specs.List.{take-map}
use Rattle.wasm_ast.specs.declared.types.Value.{Value}
use Rattle.wasm_ast.specs.declared.types.Value.TheVariants.{I64}

abbrev pub stored : List ℕ → List Value
stored cells = map I64 cells

pub stored_take : (n : ℕ) (cells others : List ℕ) → others ≡ take n cells → stored others ≡ take n (stored cells)
stored_take n cells others e = ap (λ (l : List ℕ). stored l) e ∙ sym (take-map I64 n cells)

pub stored_set : (cells : List ℕ) (x cell : ℕ) → stored (slice_set cells x cell) ≡ slice_set (stored cells) x (I64 cell)
stored_set [] x cell = refl
stored_set (c ∷ cells) zero cell = refl
stored_set (c ∷ cells) (suc x) cell = ap (λ (l : List Value). I64 c ∷ l) (stored_set cells x cell)
