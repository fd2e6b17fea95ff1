use Rattle.std.proofs.Common.{refl}
use Rattle.std.proofs.lemmas.Bool.{lt-ltb}
use Rattle.control.proofs.control.ending_at.Goals as goal

pub returns-then-superstep-limit : goal.returns-then-superstep-limit
returns-then-superstep-limit c = rw (c.if-quiet.false, lt-ltb c.args.superstep c.args.limit c.if-superstep-limit.true) refl
