use Rattle.std.proofs.Common.{arith}
use Rattle.validate.proofs.Alignments.{past_widths}
use Rattle.validate.proofs.instructions.is_aligned.Goals as goal

pub returns-else-align-lt32 : goal.returns-else-align-lt32
returns-else-align-lt32 c = past_widths c.args.align c.args.width c.if-align-lt32.false (omega arith)
