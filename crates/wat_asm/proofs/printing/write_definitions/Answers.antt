use Rattle.std.proofs.Common.{◌∙◌}
use Rattle.wat_asm.proofs.printing.write_definitions.Goals as goal

pub returns : goal.returns
returns c = λ whole.
    let globals = rw c.as_slice-6.ensures at c.write_each-6.ensures whole in
    let memories = rw c.as_slice-5.ensures at c.write_each-5.ensures globals.0 in
    let tables = rw c.as_slice-4.ensures at c.write_each-4.ensures memories.0 in
    let functions = rw c.as_slice-3.ensures at c.write_each-3.ensures tables.0 in
    let imports = rw c.as_slice-2.ensures at c.write_each-2.ensures functions.0 in
    let types = rw c.as_slice.ensures at c.write_each.ensures imports.0 in
    (types.0, λ more. globals.1 _ ∙ memories.1 _ ∙ tables.1 _ ∙ functions.1 _ ∙ imports.1 _ ∙ types.1 _)
