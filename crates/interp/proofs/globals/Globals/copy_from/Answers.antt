use Rattle.std.proofs.Common.{length, map, ap, ◌∙◌, arith}
use Rattle.std.proofs.lemmas.List.{length-map}
use Rattle.wasm_ast.specs.declared.types.Value.TheVariants.{I64}
use Rattle.interp.proofs.globals.Globals.copy_from.Goals as goal

pub copy_from_slice-requires : goal.copy_from_slice-requires
copy_from_slice-requires c =
    omega (arith, c.requires, ap length c.self.view_is, ap length c.others.view_is, length-map c.self.inside.cells.items I64, length-map c.others.inside.cells.items I64, ap length c.as_slice-cells.ensures.value)
