use Rattle.std.proofs.Common.{take}
use Rattle.std.specs.List.{AllByRecursion}
use Rattle.wasm_ast.specs.declared.module.Function.{Function}
use Rattle.verified.specs.Hosts.{call_at}
use Rattle.verified.specs.Shapes.{Everywhere, Keeps}
use Rattle.profile_rules.proofs.shapes.check_shape.Given as goal

abbrev pub invariant-loop-index : goal.invariant-loop-index
invariant-loop-index l =
    AllByRecursion (λ (f : Function). Everywhere (Keeps (call_at l.hosts) l.shape) f.body) (take l.index l.module.functions)
