-- The table of flat instructions that neither branch nor call: the instruction of the syntax that each of them is.
use Rattle.std.specs.Prelude.{Option, Some, None}
use Rattle.wasm_ast.specs.declared.types.ValType.TheVariants as val_type
use Rattle.wasm_ast.specs.declared.types.Value.TheVariants as value
use Rattle.wasm_ast.specs.declared.numeric.Numeric.TheVariants as numeric
use Rattle.wasm_ast.specs.declared.numeric.Binary.TheVariants as binary
use Rattle.wasm_ast.specs.declared.numeric.Comparison.TheVariants as comparison
use Rattle.wasm_ast.specs.declared.numeric.Conversion.TheVariants as conversion
use Rattle.wasm_ast.specs.declared.plain.Load.TheVariants as load
use Rattle.wasm_ast.specs.declared.plain.Store.TheVariants as store
use Rattle.wasm_ast.specs.declared.plain.Memory.TheVariants as memory
use Rattle.wasm_ast.specs.declared.plain.Variable.TheVariants as variable
use Rattle.wasm_ast.specs.declared.plain.Plain.{Plain}
use Rattle.wasm_ast.specs.declared.plain.Plain.TheVariants as plain
use Rattle.verified.specs.declared.body.FlatInstr.{FlatInstr}
use Rattle.verified.specs.declared.body.FlatInstr.TheVariants as flat

abbrev pub plain_of : FlatInstr → Option Plain
plain_of (flat.LocalGet x) = Some (plain.Variable (variable.LocalGet x))
plain_of (flat.LocalSet x) = Some (plain.Variable (variable.LocalSet x))
plain_of (flat.LocalTee x) = Some (plain.Variable (variable.LocalTee x))
plain_of (flat.GlobalGet x) = Some (plain.Variable (variable.GlobalGet x))
plain_of (flat.GlobalSet x) = Some (plain.Variable (variable.GlobalSet x))
plain_of (flat.I32Const x) = Some (plain.Const (value.I32 x))
plain_of (flat.I64Const x) = Some (plain.Const (value.I64 x))
plain_of flat.Drop = Some plain.Drop
plain_of flat.Select = Some plain.Select
plain_of flat.I64Add = Some (plain.Numeric (numeric.Binary val_type.I64 binary.Add))
plain_of flat.I64Sub = Some (plain.Numeric (numeric.Binary val_type.I64 binary.Sub))
plain_of flat.I64Mul = Some (plain.Numeric (numeric.Binary val_type.I64 binary.Mul))
plain_of flat.I64And = Some (plain.Numeric (numeric.Binary val_type.I64 binary.And))
plain_of flat.I64Or = Some (plain.Numeric (numeric.Binary val_type.I64 binary.Or))
plain_of flat.I64Xor = Some (plain.Numeric (numeric.Binary val_type.I64 binary.Xor))
plain_of flat.I64Shl = Some (plain.Numeric (numeric.Binary val_type.I64 binary.Shl))
plain_of flat.I64ShrS = Some (plain.Numeric (numeric.Binary val_type.I64 binary.ShrS))
plain_of flat.I64ShrU = Some (plain.Numeric (numeric.Binary val_type.I64 binary.ShrU))
plain_of flat.I64Rotl = Some (plain.Numeric (numeric.Binary val_type.I64 binary.Rotl))
plain_of flat.I64Eqz = Some (plain.Numeric (numeric.Eqz val_type.I64))
plain_of flat.I64Eq = Some (plain.Numeric (numeric.Comparison val_type.I64 comparison.Eq))
plain_of flat.I64Ne = Some (plain.Numeric (numeric.Comparison val_type.I64 comparison.Ne))
plain_of flat.I64LtS = Some (plain.Numeric (numeric.Comparison val_type.I64 comparison.LtS))
plain_of flat.I64LtU = Some (plain.Numeric (numeric.Comparison val_type.I64 comparison.LtU))
plain_of flat.I64GtS = Some (plain.Numeric (numeric.Comparison val_type.I64 comparison.GtS))
plain_of flat.I64GtU = Some (plain.Numeric (numeric.Comparison val_type.I64 comparison.GtU))
plain_of flat.I64LeS = Some (plain.Numeric (numeric.Comparison val_type.I64 comparison.LeS))
plain_of flat.I64LeU = Some (plain.Numeric (numeric.Comparison val_type.I64 comparison.LeU))
plain_of flat.I64GeS = Some (plain.Numeric (numeric.Comparison val_type.I64 comparison.GeS))
plain_of flat.I64GeU = Some (plain.Numeric (numeric.Comparison val_type.I64 comparison.GeU))
plain_of flat.I32Add = Some (plain.Numeric (numeric.Binary val_type.I32 binary.Add))
plain_of flat.I32Sub = Some (plain.Numeric (numeric.Binary val_type.I32 binary.Sub))
plain_of flat.I32Mul = Some (plain.Numeric (numeric.Binary val_type.I32 binary.Mul))
plain_of flat.I32And = Some (plain.Numeric (numeric.Binary val_type.I32 binary.And))
plain_of flat.I32Or = Some (plain.Numeric (numeric.Binary val_type.I32 binary.Or))
plain_of flat.I32Xor = Some (plain.Numeric (numeric.Binary val_type.I32 binary.Xor))
plain_of flat.I32Eqz = Some (plain.Numeric (numeric.Eqz val_type.I32))
plain_of flat.I32Eq = Some (plain.Numeric (numeric.Comparison val_type.I32 comparison.Eq))
plain_of flat.I32Ne = Some (plain.Numeric (numeric.Comparison val_type.I32 comparison.Ne))
plain_of flat.I32LtS = Some (plain.Numeric (numeric.Comparison val_type.I32 comparison.LtS))
plain_of flat.I32LtU = Some (plain.Numeric (numeric.Comparison val_type.I32 comparison.LtU))
plain_of flat.I32GtS = Some (plain.Numeric (numeric.Comparison val_type.I32 comparison.GtS))
plain_of flat.I32GtU = Some (plain.Numeric (numeric.Comparison val_type.I32 comparison.GtU))
plain_of flat.I32LeS = Some (plain.Numeric (numeric.Comparison val_type.I32 comparison.LeS))
plain_of flat.I32GeS = Some (plain.Numeric (numeric.Comparison val_type.I32 comparison.GeS))
plain_of flat.I32WrapI64 = Some (plain.Numeric (numeric.Conversion conversion.Wrap))
plain_of flat.I64ExtendI32S = Some (plain.Numeric (numeric.Conversion conversion.ExtendS))
plain_of flat.I64ExtendI32U = Some (plain.Numeric (numeric.Conversion conversion.ExtendU))
plain_of (flat.I64Load x) = Some (plain.Memory (memory.Load load.I64 x))
plain_of (flat.I64Store x) = Some (plain.Memory (memory.Store store.I64 x))
plain_of (flat.Plain p) = Some p
plain_of _ = None
