-- Constant expressions (Core 1.0, 3.3.7).
use Rattle.std.specs.Prelude.{◌≡◌, Some, slice_get}
use Rattle.wasm_ast.specs.declared.types.ValType.{ValType}
use Rattle.wasm_ast.specs.declared.types.GlobalType.{GlobalType}
use Rattle.wasm_ast.specs.declared.types.Mutability.TheVariants.{Constant}
use Rattle.wasm_ast.specs.declared.plain.Variable.{Variable}
use Rattle.wasm_ast.specs.declared.plain.Variable.TheVariants as variable
use Rattle.wasm_ast.specs.declared.plain.Plain.{Plain}
use Rattle.wasm_ast.specs.declared.plain.Plain.TheVariants as plain
use Rattle.wasm_ast.specs.Code.{Code}
use Rattle.wasm_ast.specs.Code as code
use Rattle.wasm_ast.specs.Values.{type_of}
use Rattle.verified.specs.Spaces.{Spaces}

-- a read of a global that is constant
abbrev pub VariableConstant : Spaces → Variable → ValType → Type 0
VariableConstant s (variable.GlobalGet x) t =
    (g : GlobalType) × (slice_get s.globals x ≡ Some g) × ((g.mutability ≡ Constant) × (g.value ≡ t))
VariableConstant s (variable.LocalGet x) t = ⊥
VariableConstant s (variable.LocalSet x) t = ⊥
VariableConstant s (variable.LocalTee x) t = ⊥
VariableConstant s (variable.GlobalSet x) t = ⊥

-- the instruction is constant, and its value has type t
abbrev pub PlainConstant : Spaces → Plain → ValType → Type 0
PlainConstant s (plain.Const v) t = type_of v ≡ t
PlainConstant s (plain.Variable op) t = VariableConstant s op t
PlainConstant s plain.Nop t = ⊥
PlainConstant s plain.Drop t = ⊥
PlainConstant s plain.Select t = ⊥
PlainConstant s (plain.Numeric op) t = ⊥
PlainConstant s (plain.Memory op) t = ⊥

-- the code is exactly one such instruction: each pushes one value and pops none, so only one leaves a single value
abbrev pub ConstantTyped : Spaces → ValType → Code → Type 0
ConstantTyped s t body = (p : Plain) × (body ≡ code.plain p code.end) × PlainConstant s p t
