use Rattle.std.proofs.Common.{◌≡◌, drop}
use Rattle.std.specs.Prelude.{find}
use Rattle.verified.specs.Compute.{has_its_name}
use Rattle.bounded_profile.proofs.module_rules.exported_compute.Given as goal

abbrev pub invariant-loop-export : goal.invariant-loop-export
invariant-loop-export l = find has_its_name l.exports ≡ find has_its_name (drop l.export-index l.exports)
