use Rattle.wasm_ast.specs.inside.Same.{same_is}
use Rattle.wasm_ast.proofs.same.Same.equals.Goals as goal

pub returns-clause-value : goal.returns-clause-value
returns-clause-value g c = same_is _ _ _ _ c.is_same.ensures
