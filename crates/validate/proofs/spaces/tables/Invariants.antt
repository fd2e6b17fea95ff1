use Rattle.std.proofs.Common.{◌≡◌, take}
use Rattle.verified.specs.Spaces.{table_import, imported}
use Rattle.validate.proofs.spaces.tables.Given as goal

abbrev pub invariant-loop-import : goal.invariant-loop-import
invariant-loop-import l = l.tables.items ≡ imported table_import (take l.import-index l.imports)
