-- How many bytes loads read and stores write, and the types of their values (Core 1.0, 2.4.4 and 3.3.4).
use Rattle.std.specs.Prelude.{ℕ}
use Rattle.wasm_ast.specs.declared.types.ValType.{ValType}
use Rattle.wasm_ast.specs.declared.types.ValType.TheVariants as val_type
use Rattle.wasm_ast.specs.declared.plain.Load.{Load}
use Rattle.wasm_ast.specs.declared.plain.Load.TheVariants as load
use Rattle.wasm_ast.specs.declared.plain.Store.{Store}
use Rattle.wasm_ast.specs.declared.plain.Store.TheVariants as store

-- the width in bytes
abbrev pub load_width : Load → ℕ
load_width load.I32 = 4
load_width load.I64 = 8
load_width load.I32From8S = 1
load_width load.I32From8U = 1
load_width load.I32From16S = 2
load_width load.I32From16U = 2
load_width load.I64From8S = 1
load_width load.I64From8U = 1
load_width load.I64From16S = 2
load_width load.I64From16U = 2
load_width load.I64From32S = 4
load_width load.I64From32U = 4

-- the type of the result
abbrev pub load_type : Load → ValType
load_type load.I32 = val_type.I32
load_type load.I64 = val_type.I64
load_type load.I32From8S = val_type.I32
load_type load.I32From8U = val_type.I32
load_type load.I32From16S = val_type.I32
load_type load.I32From16U = val_type.I32
load_type load.I64From8S = val_type.I64
load_type load.I64From8U = val_type.I64
load_type load.I64From16S = val_type.I64
load_type load.I64From16U = val_type.I64
load_type load.I64From32S = val_type.I64
load_type load.I64From32U = val_type.I64

-- the width in bytes
abbrev pub store_width : Store → ℕ
store_width store.I32 = 4
store_width store.I64 = 8
store_width store.I32To8 = 1
store_width store.I32To16 = 2
store_width store.I64To8 = 1
store_width store.I64To16 = 2
store_width store.I64To32 = 4

-- the type of the stored operand
abbrev pub store_type : Store → ValType
store_type store.I32 = val_type.I32
store_type store.I64 = val_type.I64
store_type store.I32To8 = val_type.I32
store_type store.I32To16 = val_type.I32
store_type store.I64To8 = val_type.I64
store_type store.I64To16 = val_type.I64
store_type store.I64To32 = val_type.I64
