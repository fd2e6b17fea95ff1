use Rattle.std.proofs.Common.{take}
use Rattle.std.specs.List.{AllByRecursion}
use Rattle.verified.specs.Hosts.{IsHostImport}
use Rattle.bounded_profile.proofs.module_rules.check_imports.Given as goal

abbrev pub invariant-loop-index : goal.invariant-loop-index
invariant-loop-index l = AllByRecursion (IsHostImport l.module) (take l.index l.module.imports)
