use Rattle.std.proofs.Common.{◌≡◌, ◌<◌, ◌∷◌, ◌∙◌, ap, length, rules, arith, sym}
use Rattle.std.proofs.lemmas.Grind.{common_steps}
use Rattle.line_text.specs.Fields.{fields}
use Rattle.line_text.proofs.Cut.{fields-first, position-le-length}
use Rattle.line_text.proofs.fields.FieldsIterator.next.Goals as goal

pub split_at-requires : goal.split_at-requires
split_at-requires c = rw c.blank_place.ensures (position-le-length c.without_leading_blanks-line.result.now)

pub returns-clause-steps : goal.returns-clause-steps
returns-clause-steps c =
    let some : 0 < length c.without_leading_blanks-line.result.now = grind (arith, common_steps) in
    sym c.without_leading_blanks-line.ensures.same
    ∙ fields-first _ _ _ _ some (c.without_leading_blanks-line.ensures.starts some) c.blank_place.ensures c.split_at.ensures.front c.split_at.ensures.back

pub returns-clause-goes : goal.returns-clause-goes
returns-clause-goes c =
    let some : 0 < length c.without_leading_blanks-line.result.now = grind (arith, common_steps) in
    let parts : fields c.args.self.now.rest.now ≡ c.split_at.result.0.now ∷ fields c.split_at.result.1.now =
    sym c.without_leading_blanks-line.ensures.same
    ∙ fields-first _ _ _ _ some (c.without_leading_blanks-line.ensures.starts some) c.blank_place.ensures c.split_at.ensures.front c.split_at.ensures.back in
    search (rules, ap length parts)
