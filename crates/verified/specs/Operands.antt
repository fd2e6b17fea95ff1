-- Operands, the topmost first, and popping one of them (Core 1.0, 4.4.1).
use Rattle.std.specs.Prelude.{ℕ, List, [], ◌∷◌, Option, Some, None}
use Rattle.wasm_ast.specs.declared.types.ValType.{ValType}
use Rattle.wasm_ast.specs.declared.types.ValType.TheVariants as val_type
use Rattle.wasm_ast.specs.declared.types.Value.{Value}
use Rattle.wasm_ast.specs.declared.types.Value.TheVariants.{I32, I64}

-- the number of an operand of a type
abbrev pub number : ValType → Value → Option ℕ
number val_type.I32 (I32 n) = Some n
number val_type.I32 (I64 n) = None
number val_type.I64 (I32 n) = None
number val_type.I64 (I64 n) = Some n

abbrev pub with_number : {E : Type 0} → E → Option ℕ → (ℕ → E) → E
with_number missing None go = missing
with_number missing (Some n) go = go n

-- pops an operand of the type and goes on with its number; `missing` where the topmost has another type or there is none
abbrev pub pop : {E : Type 0} → E → ValType → List Value → (ℕ → List Value → E) → E
pop missing t [] go = missing
pop missing t (v ∷ vs) go = with_number missing (number t v) (λ n. go n vs)
