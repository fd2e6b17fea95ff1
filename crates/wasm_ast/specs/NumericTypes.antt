-- The types of the operands and the results of numeric instructions (Core 1.0, 3.3.1).
use Rattle.std.specs.Prelude.{List, [], ◌∷◌}
use Rattle.wasm_ast.specs.declared.types.ValType.{ValType}
use Rattle.wasm_ast.specs.declared.types.ValType.TheVariants.{I32}
use Rattle.wasm_ast.specs.declared.numeric.Numeric.{Numeric}
use Rattle.wasm_ast.specs.declared.numeric.Numeric.TheVariants.{Eqz, Comparison, Unary, Binary, Division, Conversion}
use Rattle.wasm_ast.specs.Numeric.{conversion_from, conversion_to}

-- the types of the operands, the topmost first
abbrev pub numeric_takes : Numeric → List ValType
numeric_takes (Eqz t) = t ∷ []
numeric_takes (Comparison t op) = t ∷ t ∷ []
numeric_takes (Unary t op) = t ∷ []
numeric_takes (Binary t op) = t ∷ t ∷ []
numeric_takes (Division t op) = t ∷ t ∷ []
numeric_takes (Conversion op) = conversion_from op ∷ []

abbrev pub numeric_gives : Numeric → ValType
numeric_gives (Eqz t) = I32
numeric_gives (Comparison t op) = I32
numeric_gives (Unary t op) = t
numeric_gives (Binary t op) = t
numeric_gives (Division t op) = t
numeric_gives (Conversion op) = conversion_to op
