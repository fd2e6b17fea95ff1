use Rattle.std.proofs.Common.{take}
use Rattle.std.specs.List.{AllByRecursion}
use Rattle.verified.specs.Modules.{TableHolds}
use Rattle.validate.proofs.types.check_tables.Given as goal

abbrev pub invariant-loop-table : goal.invariant-loop-table
invariant-loop-table l = AllByRecursion TableHolds (take l.table-index l.tables)
