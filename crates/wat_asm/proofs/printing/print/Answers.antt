use Rattle.line_text.proofs.Pieces.{finished, gains_more}
use Rattle.wat_syntax.specs.Layout.{layout, pieces}
use Rattle.wat_syntax.proofs.Adds.{gains_all}
use Rattle.wat_asm.proofs.printing.print.Goals as goal

pub returns : goal.returns
unfolding layout
returns c =
    let empty = c.new-text.result in
    let written = c.write_module.new.text in
    let all = gains_all empty written (pieces c.args.module.now) c.write_module.ensures in
    let ended = gains_more empty written c.put.new.self _ _ all c.put.ensures.gains in
    finished empty c.put.new.self _ _ c.new-text.ensures.empty ended c.finish.ensures.text
