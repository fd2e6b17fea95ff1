use Rattle.std.proofs.Common.{sym, subst}
use Rattle.wasm_ast.specs.declared.module.Module.{Module}
use Rattle.interp.specs.inside.Meaning.{AreImports}
use Rattle.interp.proofs.Imports.{imports_are}
use Rattle.interp.proofs.program.Program.of.Goals as goal

pub returns-clause-calls : goal.returns-clause-calls
returns-clause-calls c =
    subst (λ (m : Module). AreImports c.host_calls.result.now m) (sym c.module.ensures.value) (imports_are c.args.verified.now c.host_calls.result.now c.host_calls.ensures)
