use Rattle.std.proofs.Common.{◌≡◌, rules, add-one, arith, ◌&&◌, not, false, get_or, ℕ, Bool}
use Rattle.std.proofs.lemmas.Grind.{common_steps}
use Rattle.control.specs.Machine.{is_overdue}
use Rattle.control.proofs.ByPlace.{by_place_count, one}
use Rattle.control.proofs.leases.count_in_time.Goals as goal

pub loop-i-preserved : goal.loop-i-preserved
loop-i-preserved c =
    let f = λ (w : ℕ) (a : Bool). a && not (is_overdue c.args.lease c.args.out.now c.args.age.now w) in
    let more = by_place_count f c.loop-i.i c.args.alive.now (search rules) in
    let is : c.from-count.result ≡ one (f c.loop-i.i (get_or c.args.alive.now c.loop-i.i false)) = grind (arith, common_steps) in
    record { so_far = rw (add-one c.loop-i.i) (omega (arith, more, is, c.loop-i.invariant.so_far)); small = grind (arith, common_steps) }
