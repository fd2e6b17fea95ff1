use Rattle.std.proofs.Common.{◌≡◌, ◌++◌, map, drop}
use Rattle.wasm_ast.specs.declared.module.Function.{Function}
use Rattle.verified.proofs.flatten.flat_bodies.Given as goal

abbrev pub invariant-loop-function : goal.invariant-loop-function
invariant-loop-function l =
    map (λ (f : Function). f.body) l.function-items ≡ l.bodies.items ++ map (λ (f : Function). f.body) (drop l.function-index l.function-items)
