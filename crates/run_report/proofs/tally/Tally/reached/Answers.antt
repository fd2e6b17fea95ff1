use Rattle.std.proofs.Common.{◌≡◌, ◌+◌, ℕ, Option, Some, IsSome, add-one, ap, arith, below_more, option_map, refl, subst, sym, unwrap_or}
use Rattle.run_report.specs.Tally.{epoch_before, whole_in}
use Rattle.run_report.specs.declared.tally.Tallied.{Tallied}
use Rattle.run_report.specs.declared.tally.Tally.{Tally}
use Rattle.run_report.proofs.tally.Tally.reached.Goals as goal

-- the epoch of a superstep that was run to its end is that before the next
epoch_next : (tally : Tally) (n : ℕ) (row : Tallied) → whole_in tally n ≡ Some row → row.epoch ≡ epoch_before tally (n + 1)
epoch_next tally n row is =
    subst (λ (m : ℕ). row.epoch ≡ epoch_before tally m) (sym (add-one n))
    (sym (ap (λ (found : Option Tallied). unwrap_or (option_map (λ row. row.epoch) found) 0) is))

pub loop-row-init : goal.loop-row-init
loop-row-init c = record { count = refl; epoch = refl; whole = λ superstep below. absurd (omega arith) }

pub loop-row-preserved : goal.loop-row-preserved
loop-row-preserved c =
    let is : whole_in c.args.self.now c.loop-row.row-index ≡ Some c.in-Some.row = cc in record {
      count = omega arith;
      epoch = epoch_next c.args.self.now c.loop-row.row-index c.in-Some.row is;
      whole = below_more _ _ c.loop-row.invariant.whole (subst (λ (found : Option Tallied). IsSome found) (sym is) refl);
    }
