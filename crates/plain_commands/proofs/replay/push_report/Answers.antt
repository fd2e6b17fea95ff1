use Rattle.std.proofs.Common.{codes, subst}
use Rattle.line_text.proofs.Pieces.{gains_more}
use Rattle.line_text.specs.TextBuilder.{Gains}
use Rattle.call_lines.specs.OutputLines.{numbered_lines}
use Rattle.plain_commands.proofs.replay.push_report.Goals as goal

pub returns : goal.returns
returns c =
    let ended = c.push_ended.new.text in
    let line = c.put-4.new.self in
    let all = c.push_numbered.new.text in
    let epoch = gains_more ended c.put.new.self c.show.new.self _ _ c.put.ensures.gains c.show.ensures.gains in
    let losses = gains_more ended c.show.new.self c.put-2.new.self _ _ epoch c.put-2.ensures.gains in
    let missed = gains_more ended c.put-2.new.self c.show-2.new.self _ _ losses c.show-2.ensures.gains in
    let begun = gains_more ended c.show-2.new.self c.put-3.new.self _ _ missed c.put-3.ensures.gains in
    let restarts = gains_more ended c.put-3.new.self c.show-3.new.self _ _ begun c.show-3.ensures.gains in
    let counts = gains_more ended c.show-3.new.self line _ _ restarts c.put-4.ensures.gains in
    let spent = subst (λ xs. Gains line all (numbered_lines (codes "spent") 0 xs)) c.deref.ensures.value c.push_numbered.ensures in
    gains_more c.args.text.now line all _ _ (gains_more c.args.text.now ended line _ _ c.push_ended.ensures counts) spent
