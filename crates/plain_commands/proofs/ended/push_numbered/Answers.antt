use Rattle.std.proofs.Common.{◌+◌, ◌++◌, ◌∙◌, ap, get_or, subst, take}
use Rattle.line_text.proofs.Pieces.{gains_more}
use Rattle.line_text.specs.TextBuilder.{Gains}
use Rattle.call_lines.specs.OutputLines.{numbered_line, numbered_lines}
use Rattle.plain_commands.proofs.NumberedLines.{numbered_more}
use Rattle.plain_commands.proofs.ended.push_numbered.Goals as goal

pub loop-index-preserved : goal.loop-index-preserved
loop-index-preserved c =
    let i = c.loop-index.index in
    let word = c.args.word.now in
    let first = c.args.first in
    let all = c.args.units.now in
    subst (Gains c.args.text.now c.push_number.new.text)
    (ap (λ n. numbered_lines word first (take i all) ++ numbered_line word (n + i) (get_or all i 0)) c.from.ensures
    ∙ numbered_more word first all i 0 c.loop-index-test.true)
    (gains_more c.args.text.now c.loop-index.text c.push_number.new.text _ _ c.loop-index.invariant c.push_number.ensures)
