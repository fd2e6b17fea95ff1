-- What other instructions and the formats share with numeric ones (Core 1.0, 4.2 and 4.3). A value of N bits is a number
-- below 2 ^ N.
use Rattle.std.specs.Prelude.{ℕ, suc, ◌-◌, ◌^◌, ℤ, pos, negsuc, ◌-ℤ◌, Bool, true, false, nat_lt, if◌then◌else◌}
use Rattle.wasm_ast.specs.declared.types.ValType.{ValType}
use Rattle.wasm_ast.specs.declared.types.ValType.TheVariants.{I32, I64}
use Rattle.wasm_ast.specs.declared.numeric.Conversion.{Conversion}
use Rattle.wasm_ast.specs.declared.numeric.Conversion.TheVariants.{Wrap, ExtendS, ExtendU}

-- the number of bits of a type's values (4.2.1)
abbrev pub bits_of : ValType → ℕ
bits_of I32 = 32
bits_of I64 = 64

-- ---- values as signed numbers (4.3.2, sign interpretation)

-- signed_N: the number that the value represents in two's complement
abbrev pub signed : ℕ → ℕ → ℤ
signed bits x = if nat_lt x (2 ^ (bits - 1)) then pos x else pos x -ℤ pos (2 ^ bits)

-- the value that represents this number, the inverse of signed_N; `negsuc n` is -(n + 1)
abbrev pub unsigned : ℕ → ℤ → ℕ
unsigned bits (pos n) = n
unsigned bits (negsuc n) = 2 ^ bits - suc n

-- ---- tests and comparisons (4.3.2)

-- bool(C): an i32 that is 1 where the condition holds, else 0
abbrev pub truth : Bool → ℕ
truth true = 1
truth false = 0

-- ---- conversions (4.3.4)

abbrev pub conversion_from : Conversion → ValType
conversion_from Wrap = I64
conversion_from ExtendS = I32
conversion_from ExtendU = I32

abbrev pub conversion_to : Conversion → ValType
conversion_to Wrap = I32
conversion_to ExtendS = I64
conversion_to ExtendU = I64
