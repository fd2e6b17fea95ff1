-- How types are spelled (Core 1.0, 5.3).
use Rattle.std.specs.Prelude.{ℕ, List, Option, Some, None}
use Rattle.wasm_ast.specs.declared.types.ValType.{ValType}
use Rattle.wasm_ast.specs.declared.types.ValType.TheVariants as val_type
use Rattle.wasm_ast.specs.declared.types.FuncType.{FuncType}
use Rattle.wasm_ast.specs.declared.types.Limits.{Limits}
use Rattle.wasm_ast.specs.declared.types.Mutability.{Mutability}
use Rattle.wasm_ast.specs.declared.types.Mutability.TheVariants as mutability
use Rattle.wasm_ast.specs.declared.types.GlobalType.{GlobalType}
use Rattle.wasm_items.specs.Bytes.{Then, Byte, U32, Vector}

-- the byte of a value type (5.3.1)
abbrev pub val_type_byte : ValType → ℕ
val_type_byte val_type.I32 = 0x7F
val_type_byte val_type.I64 = 0x7E

abbrev pub SpellsValType : ValType → List ℕ → Type 0
SpellsValType t bytes = Byte (val_type_byte t) bytes

-- the result of a block, if it has one (5.3.2)
abbrev pub SpellsBlockType : Option ValType → List ℕ → Type 0
SpellsBlockType None bytes = Byte 0x40 bytes
SpellsBlockType (Some t) bytes = SpellsValType t bytes

-- a function type (5.3.3)
abbrev pub SpellsFuncType : FuncType → List ℕ → Type 0
SpellsFuncType t bytes = Then (Byte 0x60) (Then (Vector SpellsValType t.parameters) (Vector SpellsValType t.results)) bytes

-- limits: a minimum, and a maximum where there is one (5.3.4)
abbrev pub SpellsRange : ℕ → Option ℕ → List ℕ → Type 0
SpellsRange minimum None bytes = Then (Byte 0x00) (U32 minimum) bytes
SpellsRange minimum (Some maximum) bytes = Then (Byte 0x01) (Then (U32 minimum) (U32 maximum)) bytes

abbrev pub SpellsLimits : Limits → List ℕ → Type 0
SpellsLimits l bytes = SpellsRange l.minimum l.maximum bytes

-- a table of functions (5.3.6); a memory's type is its limits (5.3.5)
abbrev pub SpellsTableType : Limits → List ℕ → Type 0
SpellsTableType l bytes = Then (Byte 0x70) (SpellsLimits l) bytes

-- the byte of a mutability (5.3.7)
abbrev pub mutability_byte : Mutability → ℕ
mutability_byte mutability.Constant = 0x00
mutability_byte mutability.Variable = 0x01

abbrev pub SpellsGlobalType : GlobalType → List ℕ → Type 0
SpellsGlobalType g bytes = Then (SpellsValType g.value) (Byte (mutability_byte g.mutability)) bytes
