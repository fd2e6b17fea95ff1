-- What one flat instruction is, as straight code distinguishes it.
use Rattle.std.specs.Prelude.{◌≡◌, List, Bool, false, true, Option, Some, None}
use Rattle.wasm_ast.specs.declared.types.Value.{Value}
use Rattle.wasm_ast.specs.declared.types.ValType.TheVariants as val_type
use Rattle.wasm_ast.specs.declared.numeric.Numeric.{Numeric}
use Rattle.wasm_ast.specs.declared.numeric.Numeric.TheVariants as numeric
use Rattle.wasm_ast.specs.declared.numeric.Binary.TheVariants as binary
use Rattle.wasm_ast.specs.declared.numeric.Comparison.TheVariants as comparison
use Rattle.wasm_ast.specs.declared.numeric.Conversion.TheVariants as conversion
use Rattle.wasm_ast.specs.declared.plain.Plain.TheVariants as plain
use Rattle.wasm_ast.specs.Code.{Code}
use Rattle.verified.specs.declared.body.FlatInstr.{FlatInstr}
use Rattle.verified.specs.declared.body.FlatInstr.TheVariants as flat
use Rattle.verified.specs.Plains.{plain_of}
use Rattle.verified.specs.View.{then_code}
use Rattle.verified.specs.declared.imports.HostCall.{HostCall}
use Rattle.interp.specs.declared.found.Found.{Found}
use Rattle.interp.specs.declared.found.Found.TheVariants as found
use Rattle.interp.specs.declared.found.Operator.{Operator}
use Rattle.interp.specs.declared.found.Operator.TheVariants as operator
use Rattle.interp.specs.inside.Going.{has_tops}
use Rattle.interp.specs.inside.Straight.{beside_asks, is_straight, skips_zero}

-- the instruction of the syntax
abbrev pub numeric_of : Operator → Numeric
numeric_of operator.I64Add = numeric.Binary val_type.I64 binary.Add
numeric_of operator.I64Sub = numeric.Binary val_type.I64 binary.Sub
numeric_of operator.I64Mul = numeric.Binary val_type.I64 binary.Mul
numeric_of operator.I64And = numeric.Binary val_type.I64 binary.And
numeric_of operator.I64Or = numeric.Binary val_type.I64 binary.Or
numeric_of operator.I64Xor = numeric.Binary val_type.I64 binary.Xor
numeric_of operator.I64Shl = numeric.Binary val_type.I64 binary.Shl
numeric_of operator.I64ShrS = numeric.Binary val_type.I64 binary.ShrS
numeric_of operator.I64ShrU = numeric.Binary val_type.I64 binary.ShrU
numeric_of operator.I64Rotl = numeric.Binary val_type.I64 binary.Rotl
numeric_of operator.I64Eqz = numeric.Eqz val_type.I64
numeric_of operator.I64Eq = numeric.Comparison val_type.I64 comparison.Eq
numeric_of operator.I64Ne = numeric.Comparison val_type.I64 comparison.Ne
numeric_of operator.I64LtS = numeric.Comparison val_type.I64 comparison.LtS
numeric_of operator.I64LtU = numeric.Comparison val_type.I64 comparison.LtU
numeric_of operator.I64GtS = numeric.Comparison val_type.I64 comparison.GtS
numeric_of operator.I64GtU = numeric.Comparison val_type.I64 comparison.GtU
numeric_of operator.I64LeS = numeric.Comparison val_type.I64 comparison.LeS
numeric_of operator.I64LeU = numeric.Comparison val_type.I64 comparison.LeU
numeric_of operator.I64GeS = numeric.Comparison val_type.I64 comparison.GeS
numeric_of operator.I64GeU = numeric.Comparison val_type.I64 comparison.GeU
numeric_of operator.I32Add = numeric.Binary val_type.I32 binary.Add
numeric_of operator.I32Sub = numeric.Binary val_type.I32 binary.Sub
numeric_of operator.I32Mul = numeric.Binary val_type.I32 binary.Mul
numeric_of operator.I32And = numeric.Binary val_type.I32 binary.And
numeric_of operator.I32Or = numeric.Binary val_type.I32 binary.Or
numeric_of operator.I32Xor = numeric.Binary val_type.I32 binary.Xor
numeric_of operator.I32Eqz = numeric.Eqz val_type.I32
numeric_of operator.I32Eq = numeric.Comparison val_type.I32 comparison.Eq
numeric_of operator.I32Ne = numeric.Comparison val_type.I32 comparison.Ne
numeric_of operator.I32LtS = numeric.Comparison val_type.I32 comparison.LtS
numeric_of operator.I32LtU = numeric.Comparison val_type.I32 comparison.LtU
numeric_of operator.I32GtS = numeric.Comparison val_type.I32 comparison.GtS
numeric_of operator.I32GtU = numeric.Comparison val_type.I32 comparison.GtU
numeric_of operator.I32LeS = numeric.Comparison val_type.I32 comparison.LeS
numeric_of operator.I32GeS = numeric.Comparison val_type.I32 comparison.GeS
numeric_of operator.I32WrapI64 = numeric.Conversion conversion.Wrap
numeric_of operator.I64ExtendI32S = numeric.Conversion conversion.ExtendS
numeric_of operator.I64ExtendI32U = numeric.Conversion conversion.ExtendU

-- straight code ends at the instruction
abbrev pub Ends : FlatInstr → Type 0
Ends first = (calls : List HostCall) (rest : Code) → is_straight calls (then_code first rest) ≡ false

-- it only pops a zero, and straight code ends at it where there is none
pub record PassesZero (first : FlatInstr) : Type 0 where
  pub skips : skips_zero first ≡ true
  pub none : plain_of first ≡ None
  pub asks : (calls : List HostCall) (vs : List Value) → beside_asks calls first vs ≡ has_tops 1 vs
  pub ends : Ends first

abbrev pub IsFound : Found → FlatInstr → Type 0
IsFound (found.Operator op) first = plain_of first ≡ Some (plain.Numeric (numeric_of op))
IsFound (found.Plain p) first = plain_of first ≡ Some p
IsFound (found.Call f) first = first ≡ flat.Call f
IsFound found.Zero first = PassesZero first
IsFound found.Other first = Ends first
