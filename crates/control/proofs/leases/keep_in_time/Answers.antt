use Rattle.std.proofs.Common.{◌∙◌, rules, add-one, ◌&&◌, not, false}
use Rattle.control.specs.Machine.{is_overdue}
use Rattle.control.proofs.ByPlace.{by_place_more}
use Rattle.control.proofs.leases.keep_in_time.Goals as goal

pub loop-i-preserved : goal.loop-i-preserved
loop-i-preserved c = rw (c.stays.ensures, c.is_late.ensures, add-one c.loop-i.i) (by_place_more (λ w a. a && not (is_overdue c.args.lease c.args.out.now c.args.age.now w)) c.loop-i.i c.loop-i.i c.loop-i.alive false (search rules) ∙ c.loop-i.invariant)
