use Rattle.interp.proofs.Beginnings.{no_constant}
use Rattle.interp.proofs.start.initial.constant_value.Goals as goal

pub returns-in_default-3 : goal.returns-in_default-3
returns-in_default-3 c =
    no_constant c.args.globals.now c.as_slice.result.now c.args.body.now c.in_default.len_at_least c.as_slice.ensures
