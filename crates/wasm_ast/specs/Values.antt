-- Values and their types (Core 1.0, 4.2.1).
use Rattle.wasm_ast.specs.declared.types.ValType.{ValType}
use Rattle.wasm_ast.specs.declared.types.ValType.TheVariants as val_type
use Rattle.wasm_ast.specs.declared.types.Value.{Value}
use Rattle.wasm_ast.specs.declared.types.Value.TheVariants as value

abbrev pub type_of : Value → ValType
type_of (value.I32 x) = val_type.I32
type_of (value.I64 x) = val_type.I64

-- the value that a local of the type starts with (4.4.7)
abbrev pub zero_of : ValType → Value
zero_of val_type.I32 = value.I32 0
zero_of val_type.I64 = value.I64 0
