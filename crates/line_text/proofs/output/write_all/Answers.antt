use Rattle.line_text.proofs.Writing.{written_more}
use Rattle.line_text.proofs.output.write_all.Goals as goal

pub loop-done-preserved : goal.loop-done-preserved
loop-done-preserved g c =
    written_more _ (g.O.Output.contents c.loop-done.out) _ c.args.bytes.now c.loop-done.done c.in_ok-done.field-0 c.loop-done.invariant c.in_ok-done.ensures.some
