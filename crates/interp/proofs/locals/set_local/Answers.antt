use Rattle.interp.proofs.Stored.{stored_set}
use Rattle.interp.proofs.locals.set_local.Goals as goal

pub returns : goal.returns
returns c = stored_set c.args.cells.now c.args.number c.args.cell
