use Rattle.interp.proofs.Renewing.{put_past}
use Rattle.interp.proofs.call_globals.put_one.Goals as goal

pub returns-in_default-clause-put : goal.returns-in_default-clause-put
returns-in_default-clause-put c = put_past c.args.others.now c.args.here.now c.args.number c.requires c.in_default.ensures
