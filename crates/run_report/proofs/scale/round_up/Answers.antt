use Rattle.std.proofs.Common.{◌∙◌, ◌*◌, suc, ap, arith, sym}
use Rattle.std.proofs.Math.Nat.{pow-suc}
use Rattle.run_report.proofs.scale.round_up.Goals as goal

pub loop-unit-preserved : goal.loop-unit-preserved
loop-unit-preserved c =
    let power = c.loop-unit.invariant.power in record {
      power = (suc power.0, ap (λ unit. unit * 10) power.1 ∙ sym (pow-suc 10 power.0));
      one = omega arith;
      low = omega arith;
    }
