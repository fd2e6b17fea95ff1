use Rattle.std.proofs.Common.{subst}
use Rattle.line_text.proofs.Pieces.{gains_more}
use Rattle.line_text.specs.TextBuilder.{Gains}
use Rattle.plain_commands.proofs.ended.push_end.Goals as goal

pub returns : goal.returns
returns c =
    let before = c.args.text.now in
    let word = subst (Gains c.put.new.self c.put-2.new.self) c.end_word.ensures c.put-2.ensures.gains in
    let how = gains_more before c.put.new.self c.put-2.new.self _ _ c.put.ensures.gains word in
    let supersteps = gains_more before c.put-2.new.self c.put-3.new.self _ _ how c.put-3.ensures.gains in
    let superstep = gains_more before c.put-3.new.self c.show.new.self _ _ supersteps c.show.ensures.gains in
    let units = gains_more before c.show.new.self c.put-4.new.self _ _ superstep c.put-4.ensures.gains in
    let spent = gains_more before c.put-4.new.self c.show-2.new.self _ _ units c.show-2.ensures.gains in
    let dropped = gains_more before c.show-2.new.self c.put-5.new.self _ _ spent c.put-5.ensures.gains in
    let counts = gains_more before c.put-5.new.self c.show-3.new.self _ _ dropped c.show-3.ensures.gains in
    gains_more before c.show-3.new.self c.put-6.new.self _ _ counts c.put-6.ensures.gains
