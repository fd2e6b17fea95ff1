-- The operand stack in a list of cells with free cells above it, the topmost first.
use Rattle.std.specs.Prelude.{ℕ, List, map, reverse, take}
use Rattle.wasm_ast.specs.declared.types.Value.{Value}
use Rattle.wasm_ast.specs.declared.types.Value.TheVariants.{I64}

unfoldable pub operand_stack : List ℕ → (top : ℕ) → List Value
operand_stack cells top = reverse (map I64 (take top cells))
