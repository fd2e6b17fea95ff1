-- The code of a module's own functions.
use Rattle.std.specs.Prelude.{List, map}
use Rattle.wasm_ast.specs.declared.module.Function.{Function}
use Rattle.wasm_ast.specs.declared.module.Module.{Module}
use Rattle.wasm_ast.specs.Code.{Code}

-- the body of each function that the module defines, in order
abbrev pub bodies_of : Module → List Code
bodies_of m = map (λ (f : Function). f.body) m.functions
