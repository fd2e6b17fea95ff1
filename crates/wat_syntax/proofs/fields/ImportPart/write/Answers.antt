use Rattle.std.proofs.Common.{◌∙◌}
use Rattle.wat_syntax.proofs.fields.ImportPart.write.Goals as goal

pub returns : goal.returns
returns c = λ whole.
    let last = c.write_closing.ensures whole in
    let described = c.write_import_description.ensures last.0 in
    let name = rw (c.as_bytes-2.ensures.value, c.as_str-2.ensures) at c.write_string-2.ensures described.0 in
    let named = rw (c.as_bytes.ensures.value, c.as_str.ensures) at c.write_string.ensures name.0 in
    let begun = c.write_beginning.ensures named.0 in
    (begun.0, λ more. last.1 _ ∙ described.1 _ ∙ name.1 _ ∙ named.1 _ ∙ begun.1 _)
