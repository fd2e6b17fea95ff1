-- Bytes of the memory as numbers (Core 1.0, 4.3, "Storage"), and what loads read and stores write (4.4.4).
use Rattle.std.specs.Prelude.{ℕ, ◌+◌, ◌*◌, List, [], ◌∷◌, ◌++◌, length, take, drop, nat_le, Option, Some, None, if◌then◌else◌}
use Rattle.std.specs.Int.{bytes_low_first}
use Rattle.wasm_ast.specs.declared.plain.Load.{Load}
use Rattle.wasm_ast.specs.declared.plain.Load.TheVariants as load
use Rattle.wasm_ast.specs.Numeric.{signed, unsigned}

-- the number whose bytes these are, the lowest first
abbrev pub number_of_bytes : List ℕ → ℕ
number_of_bytes [] = 0
number_of_bytes (b ∷ bs) = b + 256 * number_of_bytes bs

-- this many lowest bytes of a number, the lowest first
abbrev pub bytes_of_number : ℕ → ℕ → List ℕ
bytes_of_number width n = bytes_low_first 0 width n

-- extends a number of `from` bits to `to` bits, with its sign (4.3.4, extend_s)
abbrev pub sign_extended : ℕ → ℕ → ℕ → ℕ
sign_extended from to n = unsigned to (signed from n)

-- the result of a load, by the number that was read
abbrev pub loaded : Load → ℕ → ℕ
loaded load.I32 n = n
loaded load.I64 n = n
loaded load.I32From8S n = sign_extended 8 32 n
loaded load.I32From8U n = n
loaded load.I32From16S n = sign_extended 16 32 n
loaded load.I32From16U n = n
loaded load.I64From8S n = sign_extended 8 64 n
loaded load.I64From8U n = n
loaded load.I64From16S n = sign_extended 16 64 n
loaded load.I64From16U n = n
loaded load.I64From32S n = sign_extended 32 64 n
loaded load.I64From32U n = n

-- the number in `width` bytes from a place on, if all of them exist
abbrev pub read : (place width : ℕ) → List ℕ → Option ℕ
read place width bytes =
    if nat_le (place + width) (length bytes) then Some (number_of_bytes (take width (drop place bytes))) else None

-- replaces the bytes from a place on, if all of those exist
abbrev pub laid : (place : ℕ) (others bytes : List ℕ) → Option (List ℕ)
laid place others bytes =
    if nat_le (place + length others) (length bytes)
    then Some (take place bytes ++ others ++ drop (place + length others) bytes) else None

-- replaces `width` bytes from a place on by the lowest bytes of a number
abbrev pub write : (place width n : ℕ) → List ℕ → Option (List ℕ)
write place width n bytes = laid place (bytes_of_number width n) bytes
