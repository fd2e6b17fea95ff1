use Rattle.std.proofs.Common.{◌≡◌, ℕ, ◌*◌, ◌-◌, ◌^◌, ◌≤◌, max}
use Rattle.run_report.proofs.scale.round_up.Given as goal

abbrev pub invariant-loop-unit : goal.invariant-loop-unit
invariant-loop-unit l = record {
  power : (exponent : ℕ) × (l.unit ≡ 10 ^ exponent);
  one : 1 ≤ l.unit;
  low : l.unit ≤ max 1 (2 * l.least);
}

abbrev pub decreases-loop-unit : goal.decreases-loop-unit
decreases-loop-unit l = l.least - l.unit
