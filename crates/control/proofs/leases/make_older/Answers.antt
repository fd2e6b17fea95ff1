use Rattle.std.proofs.Common.{◌∙◌, rules, add-one}
use Rattle.control.specs.Machine.{one_older, is_busy}
use Rattle.control.proofs.ByPlace.{by_place_more}
use Rattle.control.proofs.leases.make_older.Goals as goal

pub loop-i-preserved : goal.loop-i-preserved
loop-i-preserved c = rw (c.one_older.ensures, c.has_task.ensures, add-one c.loop-i.i) (by_place_more (λ w n. one_older (is_busy c.args.alive.now c.args.out.now w) n) c.loop-i.i c.loop-i.i c.loop-i.age 0 (search rules) ∙ c.loop-i.invariant)
