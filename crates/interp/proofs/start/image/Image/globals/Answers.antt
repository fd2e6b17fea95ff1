use Rattle.std.proofs.Common.{subst}
use Rattle.wasm_ast.specs.declared.module.Module.{Module}
use Rattle.interp.specs.inside.Begun.{AreInitial}
use Rattle.interp.proofs.start.image.Image.globals.Goals as goal

pub returns : goal.returns
returns c = subst (λ (m : Module). AreInitial m.globals c.self.inside.globals) c.self.view_is c.self.invariant.globals
