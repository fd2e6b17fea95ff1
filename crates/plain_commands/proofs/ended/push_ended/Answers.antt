use Rattle.std.proofs.Common.{[], codes, subst, sym}
use Rattle.line_text.proofs.Pieces.{gains_more, gains_nothing}
use Rattle.line_text.specs.TextBuilder.{Gains}
use Rattle.graph.specs.Print.{value_lines}
use Rattle.call_lines.specs.OutputLines.{ended_lines, numbered_lines}
use Rattle.plain_commands.proofs.ended.push_ended.Goals as goal

pub returns-then-tells_units : goal.returns-then-tells_units
returns-then-tells_units c =
    let before = c.args.text.now in
    let after = c.push_numbered.new.text in
    let values = subst (λ xs. Gains before c.push_values.new.text (value_lines xs)) c.deref.ensures.value c.push_values.ensures in
    let end = gains_more before c.push_values.new.text c.push_end.new.text _ _ values c.push_end.ensures in
    let units = subst (λ xs. Gains c.push_end.new.text after (numbered_lines (codes "units") c.args.ended.now.since xs)) c.deref-then-tells_units.ensures.value c.push_numbered.ensures in
    subst (λ tells. Gains before after (ended_lines tells c.args.ended.now)) (sym c.if-tells_units.true)
    (gains_more before c.push_end.new.text after _ _ end units)

pub returns-else-tells_units : goal.returns-else-tells_units
returns-else-tells_units c =
    let before = c.args.text.now in
    let after = c.push_end.new.text in
    let values = subst (λ xs. Gains before c.push_values.new.text (value_lines xs)) c.deref.ensures.value c.push_values.ensures in
    let end = gains_more before c.push_values.new.text after _ _ values c.push_end.ensures in
    subst (λ tells. Gains before after (ended_lines tells c.args.ended.now)) (sym c.if-tells_units.false)
    (gains_more before after after _ [] end (gains_nothing after))
