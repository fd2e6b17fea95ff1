use Rattle.command_line.proofs.Entries.{none_is}
use Rattle.command_line.proofs.command_line.settings_of.Goals as goal

pub returns-in_err-number_of : goal.returns-in_err-number_of
returns-in_err-number_of c = none_is _ _ c.from_residual.ensures (λ given asks. c.in_err-number_of.ensures _ asks.parts)

pub returns-in_err-number_of-2 : goal.returns-in_err-number_of-2
returns-in_err-number_of-2 c = none_is _ _ c.from_residual-in_err-number_of-2.ensures (λ given asks. c.in_err-number_of-2.ensures _ asks.workers)

pub returns-in_err-number_of-3 : goal.returns-in_err-number_of-3
returns-in_err-number_of-3 c = none_is _ _ c.from_residual-in_err-number_of-3.ensures (λ given asks. c.in_err-number_of-3.ensures _ asks.every)

pub returns-in_err-number_of-4 : goal.returns-in_err-number_of-4
returns-in_err-number_of-4 c = none_is _ _ c.from_residual-in_err-number_of-4.ensures (λ given asks. c.in_err-number_of-4.ensures _ asks.limit)

pub returns-in_err-number_of-5 : goal.returns-in_err-number_of-5
returns-in_err-number_of-5 c = none_is _ _ c.from_residual-in_err-number_of-5.ensures (λ given asks. c.in_err-number_of-5.ensures _ asks.lease)
