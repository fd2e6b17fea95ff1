use Rattle.std.proofs.Common.{ap, ◌∙◌}
use Rattle.std.specs.Prelude.{slice_set}
use Rattle.wasm_ast.specs.declared.types.Value.TheVariants.{I64}
use Rattle.interp.proofs.Stored.{stored_set}
use Rattle.interp.proofs.globals.Globals.set_at.Goals as goal

pub returns : goal.returns
returns c =
    stored_set c.self.inside.cells.items c.args.place c.args.cell ∙ ap (λ l. slice_set l c.args.place (I64 c.args.cell)) c.self.view_is
