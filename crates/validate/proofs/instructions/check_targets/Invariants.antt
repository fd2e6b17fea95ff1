use Rattle.std.proofs.Common.{◌≡◌, drop, reverse}
use Rattle.validate.specs.inside.Steps.{all_take}
use Rattle.validate.proofs.instructions.check_targets.Given as goal

abbrev pub invariant-loop-target : goal.invariant-loop-target
invariant-loop-target l =
    all_take (reverse l.scope.labels.items) l.taken l.targets ≡ all_take (reverse l.scope.labels.items) l.taken (drop l.target-index l.targets)
