use Rattle.std.proofs.Common.{sym}
use Rattle.std.proofs.lemmas.Option.{slice_get_past}
use Rattle.interp.proofs.Functions.{label_past}
use Rattle.interp.proofs.walk.branches.label_at.Goals as goal

pub returns-in-None : goal.returns-in-None
returns-in-None c = sym (label_past c.args.labels.now c.args.place c.args.other (slice_get_past c.args.labels.now c.args.place c.in-None.ensures.lookup.3))
