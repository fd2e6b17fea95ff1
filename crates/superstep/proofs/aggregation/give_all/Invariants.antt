use Rattle.std.proofs.Common.{◌≡◌, take}
use Rattle.std.specs.List.{fold}
use Rattle.superstep.specs.Folds.{give}
use Rattle.superstep.proofs.aggregation.give_all.Given as goal

abbrev pub invariant-loop-given : goal.invariant-loop-given
invariant-loop-given l = l.aggregators ≡ fold give l.fn.aggregators (take l.given-index l.contributions)
