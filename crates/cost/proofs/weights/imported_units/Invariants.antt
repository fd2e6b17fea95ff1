use Rattle.std.proofs.Common.{◌≡◌, ◌++◌, drop}
use Rattle.verified.specs.Weights.{imported_units}
use Rattle.cost.proofs.weights.imported_units.Given as goal

abbrev pub invariant-loop-import : goal.invariant-loop-import
invariant-loop-import l = imported_units l.imports ≡ l.units.items ++ imported_units (drop l.import-index l.imports)
