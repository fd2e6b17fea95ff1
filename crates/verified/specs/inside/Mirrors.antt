-- A flat instruction is the same code as one of the syntax.
use Rattle.std.specs.Prelude.{◌≡◌}
use Rattle.wasm_ast.specs.declared.body.Instr.{Instr}
use Rattle.wasm_ast.specs.declared.plain.Branch.{Branch}
use Rattle.wasm_ast.specs.Code.{Code, branch}
use Rattle.wasm_ast.specs.View as syntax
use Rattle.verified.specs.declared.body.FlatInstr.{FlatInstr}
use Rattle.verified.specs.View.{then_code}

abbrev pub Mirrors : FlatInstr → Instr → Type 0
Mirrors flat i = (rest : Code) → then_code flat rest ≡ syntax.then_code i rest

abbrev pub MirrorsBranch : FlatInstr → Branch → Type 0
MirrorsBranch flat b = (rest : Code) → then_code flat rest ≡ branch b rest
