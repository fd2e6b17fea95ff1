use Rattle.std.proofs.Common.{◌∙◌}
use Rattle.wat_syntax.proofs.fields.FuncTypePart.write.Goals as goal

pub returns : goal.returns
returns c = λ whole.
    let last = c.write_closing-2.ensures whole in
    let closed = c.write_closing.ensures last.0 in
    let results = rw c.as_slice-2.ensures at c.write_type_group-2.ensures closed.0 in
    let parameters = rw c.as_slice.ensures at c.write_type_group.ensures results.0 in
    let opened = c.write_opening.ensures parameters.0 in
    let begun = c.write_beginning.ensures opened.0 in
    (begun.0, λ more. last.1 _ ∙ closed.1 _ ∙ results.1 _ ∙ parameters.1 _ ∙ opened.1 _ ∙ begun.1 _)
