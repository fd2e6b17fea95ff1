-- The values of numeric instructions (Core 1.0, 4.3). A value of N bits is a number below 2 ^ N. The first argument
-- of each operation is N.
use Rattle.std.specs.Prelude.{ℕ, ◌+◌, ◌-◌, ◌*◌, ◌/◌, ◌%◌, ◌^◌, pos, Bool, not, ◌==◌, ◌&&◌, ◌||◌, nat_lt, nat_le, int_lt, int_le, int_div, int_rem, bit_and, bit_or, bit_xor, count_ones}
use Rattle.std.specs.Int.{int_div_euclid}
use lib.Count.{count_leading_zeros, count_trailing_zeros}
use Rattle.wasm_ast.specs.declared.numeric.Unary.{Unary}
use Rattle.wasm_ast.specs.declared.numeric.Unary.TheVariants.{Clz, Ctz, Popcnt}
use Rattle.wasm_ast.specs.declared.numeric.Binary.{Binary}
use Rattle.wasm_ast.specs.declared.numeric.Binary.TheVariants.{Add, Sub, Mul, And, Or, Xor, Shl, ShrS, ShrU, Rotl, Rotr}
use Rattle.wasm_ast.specs.declared.numeric.Division.{Division}
use Rattle.wasm_ast.specs.declared.numeric.Division.TheVariants.{DivS, DivU, RemS, RemU}
use Rattle.wasm_ast.specs.declared.numeric.Comparison.{Comparison}
use Rattle.wasm_ast.specs.declared.numeric.Comparison.TheVariants.{Eq, Ne, LtS, LtU, GtS, GtU, LeS, LeU, GeS, GeU}
use Rattle.wasm_ast.specs.declared.numeric.Conversion.{Conversion}
use Rattle.wasm_ast.specs.declared.numeric.Conversion.TheVariants.{Wrap, ExtendS, ExtendU}
use Rattle.wasm_ast.specs.Numeric.{signed, unsigned, truth}

-- ---- one operand (4.3.2)

-- the number of zero bits above the highest 1 bit: N for 0
abbrev pub clz : ℕ → ℕ → ℕ
clz bits x = count_leading_zeros bits x

-- the number of zero bits below the lowest 1 bit: N for 0
abbrev pub ctz : ℕ → ℕ → ℕ
ctz bits x = count_trailing_zeros bits x

-- how many bits are 1
abbrev pub popcnt : ℕ → ℕ → ℕ
popcnt bits x = count_ones x

-- ---- two operands (4.3.2)

abbrev pub add : ℕ → ℕ → ℕ → ℕ
add bits x y = (x + y) % 2 ^ bits

abbrev pub sub : ℕ → ℕ → ℕ → ℕ
sub bits x y = (x + (2 ^ bits - y)) % 2 ^ bits

abbrev pub mul : ℕ → ℕ → ℕ → ℕ
mul bits x y = (x * y) % 2 ^ bits

-- shifts and rotations are by `y` modulo N
abbrev pub shl : ℕ → ℕ → ℕ → ℕ
shl bits x y = (x * 2 ^ (y % bits)) % 2 ^ bits

abbrev pub shr_u : ℕ → ℕ → ℕ → ℕ
shr_u bits x y = x / 2 ^ (y % bits)

-- a shift of the signed number, rounded down
abbrev pub shr_s : ℕ → ℕ → ℕ → ℕ
shr_s bits x y = unsigned bits (int_div_euclid (signed bits x) (pos (2 ^ (y % bits))))

-- the bits that a shift keeps, and at the other end those that it drops
abbrev pub rotl : ℕ → ℕ → ℕ → ℕ
rotl bits x y = (x * 2 ^ (y % bits)) % 2 ^ bits + x / 2 ^ (bits - y % bits)

abbrev pub rotr : ℕ → ℕ → ℕ → ℕ
rotr bits x y = x / 2 ^ (y % bits) + (x * 2 ^ (bits - y % bits)) % 2 ^ bits

-- ---- divisions (4.3.2), which are undefined on some operands

-- the quotient of the signed numbers, rounded towards 0
abbrev pub div_s : ℕ → ℕ → ℕ → ℕ
div_s bits x y = unsigned bits (int_div (signed bits x) (signed bits y))

abbrev pub div_u : ℕ → ℕ → ℕ → ℕ
div_u bits x y = x / y

-- the remainder of that quotient, which has the sign of the first operand
abbrev pub rem_s : ℕ → ℕ → ℕ → ℕ
rem_s bits x y = unsigned bits (int_rem (signed bits x) (signed bits y))

abbrev pub rem_u : ℕ → ℕ → ℕ → ℕ
rem_u bits x y = x % y

-- the least signed number, and -1
abbrev pub least : ℕ → ℕ
least bits = 2 ^ (bits - 1)

abbrev pub minus_one : ℕ → ℕ
minus_one bits = 2 ^ bits - 1

-- ---- tests and comparisons (4.3.2)

abbrev pub eqz_value : ℕ → ℕ
eqz_value x = truth (x == 0)

-- ---- each instruction

abbrev pub unary_value : ℕ → Unary → ℕ → ℕ
unary_value bits Clz x = clz bits x
unary_value bits Ctz x = ctz bits x
unary_value bits Popcnt x = popcnt bits x

abbrev pub binary_value : ℕ → Binary → ℕ → ℕ → ℕ
binary_value bits Add x y = add bits x y
binary_value bits Sub x y = sub bits x y
binary_value bits Mul x y = mul bits x y
binary_value bits And x y = bit_and x y
binary_value bits Or x y = bit_or x y
binary_value bits Xor x y = bit_xor x y
binary_value bits Shl x y = shl bits x y
binary_value bits ShrS x y = shr_s bits x y
binary_value bits ShrU x y = shr_u bits x y
binary_value bits Rotl x y = rotl bits x y
binary_value bits Rotr x y = rotr bits x y

abbrev pub division_value : ℕ → Division → ℕ → ℕ → ℕ
division_value bits DivS x y = div_s bits x y
division_value bits DivU x y = div_u bits x y
division_value bits RemS x y = rem_s bits x y
division_value bits RemU x y = rem_u bits x y

-- whether there is no value: the divisor is 0, or the signed quotient is greater than every signed number of N bits
abbrev pub division_traps : ℕ → Division → ℕ → ℕ → Bool
division_traps bits DivS x y = y == 0 || (x == least bits && y == minus_one bits)
division_traps bits DivU x y = y == 0
division_traps bits RemS x y = y == 0
division_traps bits RemU x y = y == 0

abbrev pub comparison_holds : ℕ → Comparison → ℕ → ℕ → Bool
comparison_holds bits Eq x y = x == y
comparison_holds bits Ne x y = not (x == y)
comparison_holds bits LtS x y = int_lt (signed bits x) (signed bits y)
comparison_holds bits LtU x y = nat_lt x y
comparison_holds bits GtS x y = int_lt (signed bits y) (signed bits x)
comparison_holds bits GtU x y = nat_lt y x
comparison_holds bits LeS x y = int_le (signed bits x) (signed bits y)
comparison_holds bits LeU x y = nat_le x y
comparison_holds bits GeS x y = int_le (signed bits y) (signed bits x)
comparison_holds bits GeU x y = nat_le y x

-- ---- conversions (4.3.4)

abbrev pub conversion_value : Conversion → ℕ → ℕ
conversion_value Wrap x = x % 2 ^ 32
conversion_value ExtendS x = unsigned 64 (signed 32 x)
conversion_value ExtendU x = x
