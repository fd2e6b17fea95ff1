-- Reading instructions: what follows an opcode, and instruction sequences.
use Rattle.std.specs.Prelude.{ℕ, zero, suc, ◌-◌, Bool, false, ◌||◌, ◌&&◌, List, [], ◌∷◌, length, slice_get, nat_le, Option, Some, None, ◌==◌, if◌then◌else◌}
use Rattle.std.specs.Int.{cast_unsigned, w32, w64}
use Rattle.wasm_ast.specs.declared.types.ValType.{ValType}
use Rattle.wasm_ast.specs.declared.types.ValType.TheVariants as val_type
use Rattle.wasm_ast.specs.declared.types.Value.TheVariants as value
use Rattle.wasm_ast.specs.declared.numeric.Unary.TheVariants.{Clz, Ctz, Popcnt}
use Rattle.wasm_ast.specs.declared.numeric.Binary.TheVariants.{Add, Sub, Mul, And, Or, Xor, Shl, ShrS, ShrU, Rotl, Rotr}
use Rattle.wasm_ast.specs.declared.numeric.Division.TheVariants.{DivS, DivU, RemS, RemU}
use Rattle.wasm_ast.specs.declared.numeric.Comparison.{Comparison}
use Rattle.wasm_ast.specs.declared.numeric.Comparison.TheVariants.{Eq, Ne, LtS, LtU, GtS, GtU, LeS, LeU, GeS, GeU}
use Rattle.wasm_ast.specs.declared.numeric.Conversion.TheVariants.{Wrap, ExtendS, ExtendU}
use Rattle.wasm_ast.specs.declared.numeric.Numeric.{Numeric}
use Rattle.wasm_ast.specs.declared.numeric.Numeric.TheVariants as numeric
use Rattle.wasm_ast.specs.declared.plain.Variable.{Variable}
use Rattle.wasm_ast.specs.declared.plain.Variable.TheVariants as variable
use Rattle.wasm_ast.specs.declared.plain.MemoryArgument.{MemoryArgument}
use Rattle.wasm_ast.specs.declared.plain.Load.{Load}
use Rattle.wasm_ast.specs.declared.plain.Load.TheVariants as load
use Rattle.wasm_ast.specs.declared.plain.Store.{Store}
use Rattle.wasm_ast.specs.declared.plain.Store.TheVariants as store
use Rattle.wasm_ast.specs.declared.plain.Memory.{Memory}
use Rattle.wasm_ast.specs.declared.plain.Memory.TheVariants as memory
use Rattle.wasm_ast.specs.declared.plain.Plain.{Plain}
use Rattle.wasm_ast.specs.declared.plain.Plain.TheVariants as plain
use Rattle.wasm_ast.specs.declared.plain.Branch.{Branch}
use Rattle.wasm_ast.specs.declared.plain.Branch.TheVariants as branch
use Rattle.wasm_ast.specs.declared.body.Instr.{Instr}
use Rattle.wasm_ast.specs.declared.body.Instr.TheVariants as instr
use Rattle.wasm_ast.specs.Code.{Code, end}
use Rattle.wasm_ast.specs.View.{then_code}
use Rattle.wasm_ast.specs.Limits.{max_align, max_labels, max_nesting}
use Rattle.wasm_items.specs.inside.Reading.{◌>>=◌, guarded, Reads, byte_at, u32_at, signed_number_at, vector_at, block_type_at}

-- ---- numeric instructions

abbrev pub comparisons : List Comparison
comparisons = Eq ∷ Ne ∷ LtS ∷ LtU ∷ GtS ∷ GtU ∷ LeS ∷ LeU ∷ GeS ∷ GeU ∷ []

-- the test or comparison at a position
abbrev pub test_of : ValType → ℕ → Option Numeric
test_of t zero = Some (numeric.Eqz t)
test_of t (suc place) = slice_get comparisons place >>= λ op. Some (numeric.Comparison t op)

abbrev pub arithmetic : ValType → List Numeric
arithmetic t =
    numeric.Unary t Clz ∷ numeric.Unary t Ctz ∷ numeric.Unary t Popcnt
    ∷ numeric.Binary t Add ∷ numeric.Binary t Sub ∷ numeric.Binary t Mul
    ∷ numeric.Division t DivS ∷ numeric.Division t DivU ∷ numeric.Division t RemS ∷ numeric.Division t RemU
    ∷ numeric.Binary t And ∷ numeric.Binary t Or ∷ numeric.Binary t Xor ∷ numeric.Binary t Shl ∷ numeric.Binary t ShrS
    ∷ numeric.Binary t ShrU ∷ numeric.Binary t Rotl ∷ numeric.Binary t Rotr ∷ []

-- the arithmetic instruction at a position
abbrev pub arithmetic_of : ValType → ℕ → Option Numeric
arithmetic_of t place = slice_get (arithmetic t) place

abbrev pub is_from : ℕ → ℕ → ℕ → Bool
is_from low high b = nat_le low b && nat_le b high

unfoldable pub numeric_of : ℕ → Option Numeric
numeric_of b =
    if is_from 0x45 0x4F b then test_of val_type.I32 (b - 0x45)
    else (if is_from 0x50 0x5A b then test_of val_type.I64 (b - 0x50)
    else (if is_from 0x67 0x78 b then arithmetic_of val_type.I32 (b - 0x67)
    else (if is_from 0x79 0x8A b then arithmetic_of val_type.I64 (b - 0x79)
    else (if b == 0xA7 then Some (numeric.Conversion Wrap)
    else (if b == 0xAC then Some (numeric.Conversion ExtendS)
    else (if b == 0xAD then Some (numeric.Conversion ExtendU) else None))))))

unfoldable pub numeric_at : ℕ → Reads Plain
numeric_at opcode bytes = numeric_of opcode >>= λ op. Some (plain.Numeric op, bytes)

-- ---- constants, variables and memory

unfoldable pub i32_at : Reads Plain
i32_at bytes = do
  z ← signed_number_at 32 bytes
  Some (plain.Const (value.I32 (cast_unsigned w32 z.0)), z.1)

unfoldable pub i64_at : Reads Plain
i64_at bytes = do
  z ← signed_number_at 64 bytes
  Some (plain.Const (value.I64 (cast_unsigned w64 z.0)), z.1)

-- the instruction with an opcode from 0x20 to 0x24 and this index
abbrev pub variable_of : ℕ → ℕ → Variable
variable_of opcode x =
    if opcode == 0x20 then variable.LocalGet x
    else (if opcode == 0x21 then variable.LocalSet x
    else (if opcode == 0x22 then variable.LocalTee x
    else (if opcode == 0x23 then variable.GlobalGet x else variable.GlobalSet x)))

unfoldable pub variable_at : ℕ → Reads Plain
variable_at opcode bytes = do
  x ← u32_at bytes
  Some (plain.Variable (variable_of opcode x.0), x.1)

unfoldable pub memory_argument_at : Reads MemoryArgument
memory_argument_at bytes = do
  align ← u32_at bytes
  guarded (nat_le align.0 max_align) (do
    offset ← u32_at align.1
    Some (record { align = align.0; offset = offset.0 }, offset.1))

abbrev pub loads : List (Option Load)
loads =
    Some load.I32 ∷ Some load.I64 ∷ None ∷ None ∷ Some load.I32From8S ∷ Some load.I32From8U ∷ Some load.I32From16S ∷ Some load.I32From16U
    ∷ Some load.I64From8S ∷ Some load.I64From8U ∷ Some load.I64From16S ∷ Some load.I64From16U ∷ Some load.I64From32S ∷ Some load.I64From32U ∷ []

-- the load at a position from 0x28 on; those of floats are not supported
abbrev pub load_of : ℕ → Option Load
load_of place = slice_get loads place >>= λ op. op

abbrev pub stores : List (Option Store)
stores =
    Some store.I32 ∷ Some store.I64 ∷ None ∷ None ∷ Some store.I32To8 ∷ Some store.I32To16 ∷ Some store.I64To8 ∷ Some store.I64To16
    ∷ Some store.I64To32 ∷ []

-- the store at a position from 0x36 on; those of floats are not supported
abbrev pub store_of : ℕ → Option Store
store_of place = slice_get stores place >>= λ op. op

unfoldable pub load_at : ℕ → Reads Memory
load_at opcode bytes = do
  op ← load_of (opcode - 0x28)
  argument ← memory_argument_at bytes
  Some (memory.Load op argument.0, argument.1)

unfoldable pub store_at : ℕ → Reads Memory
store_at opcode bytes = do
  op ← store_of (opcode - 0x36)
  argument ← memory_argument_at bytes
  Some (memory.Store op argument.0, argument.1)

-- the 0 byte that names the memory or the table; the result is the argument
unfoldable pub after_zero : {A : Type 0} → A → Reads A
after_zero x bytes = do
  index ← byte_at bytes
  guarded (index.0 == 0x00) (Some (x, index.1))

-- what follows an opcode from 0x28 to 0x40
unfoldable pub memory_at : ℕ → Reads Memory
memory_at opcode bytes =
    if opcode == 0x3F then after_zero memory.Size bytes
    else (if opcode == 0x40 then after_zero memory.Grow bytes
    else (if nat_le opcode 0x35 then load_at opcode bytes else store_at opcode bytes))

-- ---- instructions that contain no others

-- what follows the opcode of an instruction that neither branches nor calls
unfoldable pub plain_at : ℕ → Reads Plain
plain_at opcode bytes =
    if opcode == 0x01 then Some (plain.Nop, bytes)
    else (if opcode == 0x1A then Some (plain.Drop, bytes)
    else (if opcode == 0x1B then Some (plain.Select, bytes)
    else (if is_from 0x20 0x24 opcode then variable_at opcode bytes
    else (if is_from 0x28 0x40 opcode then (memory_at opcode bytes >>= λ op. Some (plain.Memory op.0, op.1))
    else (if opcode == 0x41 then i32_at bytes
    else (if opcode == 0x42 then i64_at bytes
    else numeric_at opcode bytes))))))

unfoldable pub br_at : Reads Branch
br_at bytes = do
  label ← u32_at bytes
  Some (branch.Br label.0, label.1)

unfoldable pub br_if_at : Reads Branch
br_if_at bytes = do
  label ← u32_at bytes
  Some (branch.BrIf label.0, label.1)

unfoldable pub br_table_at : Reads Branch
br_table_at bytes = do
  labels ← vector_at u32_at max_labels bytes
  default ← u32_at labels.1
  Some (branch.BrTable labels.0 default.0, default.1)

-- what follows an opcode from 0x0C to 0x0F
unfoldable pub branch_at : ℕ → Reads Branch
branch_at opcode bytes =
    if opcode == 0x0C then br_at bytes
    else (if opcode == 0x0D then br_if_at bytes
    else (if opcode == 0x0E then br_table_at bytes
    else Some (branch.Return, bytes)))

unfoldable pub call_at : Reads Instr
call_at bytes = do
  f ← u32_at bytes
  Some (instr.Call f.0, f.1)

unfoldable pub call_indirect_at : Reads Instr
call_indirect_at bytes = do
  t ← u32_at bytes
  after_zero (instr.CallIndirect t.0) t.1

-- what follows the opcode of an instruction that contains no others
unfoldable pub flat_at : ℕ → Reads Instr
flat_at opcode bytes =
    if opcode == 0x00 then Some (instr.Unreachable, bytes)
    else (if is_from 0x0C 0x0F opcode then (branch_at opcode bytes >>= λ b. Some (instr.Branch b.0, b.1))
    else (if opcode == 0x10 then call_at bytes
    else (if opcode == 0x11 then call_indirect_at bytes
    else (plain_at opcode bytes >>= λ p. Some (instr.Plain p.0, p.1)))))

-- ---- instructions that contain others

-- instructions up to a byte that ends them, with at most this many blocks, loops and ifs inside each other
abbrev pub Inner : Type 0
Inner = ℕ → Reads Code

-- the `end` of a sequence
unfoldable pub closed_at : List ℕ → Option (List ℕ)
closed_at bytes = do
  b ← byte_at bytes
  guarded (b.0 == 0x0B) (Some b.1)

-- the `end` of a sequence; the result is the argument
abbrev pub closed_as : {A : Type 0} → A → Reads A
closed_as whole bytes = closed_at bytes >>= λ rest. Some (whole, rest)

-- a block's type and its instructions, without the `end`
unfoldable pub typed_with : Inner → ℕ → Reads (Option ValType × Code)
typed_with inner levels bytes =
    guarded (nat_le 1 levels) (do
      t ← block_type_at bytes
      body ← inner (levels - 1) t.1
      Some ((t.0, body.0), body.1))

unfoldable pub block_with : Inner → ℕ → Reads Instr
block_with inner levels bytes = do
  x ← typed_with inner levels bytes
  rest ← closed_at x.1
  Some (instr.Block x.0.0 x.0.1, rest)

unfoldable pub loop_with : Inner → ℕ → Reads Instr
loop_with inner levels bytes = do
  x ← typed_with inner levels bytes
  rest ← closed_at x.1
  Some (instr.Loop x.0.0 x.0.1, rest)

-- instructions and their `end`
unfoldable pub ended_with : Inner → ℕ → Reads Code
ended_with inner levels bytes = do
  body ← inner levels bytes
  rest ← closed_at body.1
  Some (body.0, rest)

-- an `else` and the arm for 0, or the `end`; `first` is the first byte
unfoldable pub arm_with : Inner → ℕ → (first : ℕ) → Reads Code
arm_with inner levels first bytes =
    if first == 0x05 then ended_with inner (levels - 1) bytes
    else guarded (first == 0x0B) (Some (end, bytes))

unfoldable pub else_with : Inner → ℕ → Reads Code
else_with inner levels bytes = do
  first ← byte_at bytes
  arm_with inner levels first.0 first.1

unfoldable pub if_with : Inner → ℕ → Reads Instr
if_with inner levels bytes = do
  x ← typed_with inner levels bytes
  other ← else_with inner levels x.1
  Some (instr.If x.0.0 x.0.1 other.0, other.1)

-- what follows an opcode
unfoldable pub opcode_with : Inner → ℕ → (opcode : ℕ) → Reads Instr
opcode_with inner levels opcode bytes =
    if opcode == 0x02 then block_with inner levels bytes
    else (if opcode == 0x03 then loop_with inner levels bytes
    else (if opcode == 0x04 then if_with inner levels bytes
    else flat_at opcode bytes))

unfoldable pub instr_with : Inner → ℕ → Reads Instr
instr_with inner levels bytes = do
  b ← byte_at bytes
  opcode_with inner levels b.0 b.1

-- whether this byte ends a sequence
abbrev pub stops : Option ℕ → Bool
stops None = false
stops (Some b) = (b == 0x0B) || (b == 0x05)

-- an instruction sequence; the first argument bounds its length
unfoldable pub code_at : ℕ → Inner
code_at zero levels bytes = None
code_at (suc n) levels bytes =
    if stops (slice_get bytes 0) then Some (end, bytes)
    else (do
      i ← instr_with (code_at n) levels bytes
      after ← code_at n levels i.1
      Some (then_code i.0 after.0, after.1))

unfoldable pub expression_at : Reads Code
expression_at bytes = ended_with (code_at (suc (length bytes))) max_nesting bytes
