use Rattle.std.proofs.Common.{sym, ◌∙◌}
use Rattle.control.proofs.Least.{least_step}
use Rattle.control.proofs.leases.least_part.Goals as goal

pub loop-i-preserved : goal.loop-i-preserved
loop-i-preserved c = least_step c.args.count c.args.place c.loop-i.i c.args.done.now c.loop-i-test.true (sym c.is_next.ensures ∙ c.if-is_next.false) ∙ c.loop-i.invariant
