use Rattle.std.proofs.Common.{length, sym, ap, ◌∙◌}
use Rattle.std.proofs.lemmas.List.{length-map, length-set}
use Rattle.std.specs.Prelude.{slice_set}
use Rattle.wasm_ast.specs.declared.types.Value.TheVariants.{I64}
use Rattle.interp.proofs.Stored.{stored_set}
use Rattle.interp.proofs.globals.Globals.set.Goals as goal

pub returns-clause-set : goal.returns-clause-set
returns-clause-set c =
    stored_set c.self.inside.cells.items c.args.number c.args.cell ∙ ap (λ l. slice_set l c.args.number (I64 c.args.cell)) c.self.view_is

pub returns-clause-kept : goal.returns-clause-kept
returns-clause-kept c =
    length-map (slice_set c.self.inside.cells.items c.args.number c.args.cell) I64 ∙ length-set c.self.inside.cells.items c.args.number c.args.cell
    ∙ sym (length-map c.self.inside.cells.items I64) ∙ ap length c.self.view_is
