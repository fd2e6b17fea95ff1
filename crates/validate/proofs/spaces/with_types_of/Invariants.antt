use Rattle.std.proofs.Common.{◌≡◌, ◌++◌, take}
use Rattle.validate.specs.inside.Checks.{global_types}
use Rattle.validate.proofs.spaces.with_types_of.Given as goal

abbrev pub invariant-loop-global : goal.invariant-loop-global
invariant-loop-global l = l.all.items ≡ l.types ++ global_types (take l.global-index l.globals)
