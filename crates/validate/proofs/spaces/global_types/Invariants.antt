use Rattle.std.proofs.Common.{◌≡◌, take}
use Rattle.verified.specs.Spaces.{global_import, imported}
use Rattle.validate.proofs.spaces.global_types.Given as goal

abbrev pub invariant-loop-import : goal.invariant-loop-import
invariant-loop-import l = l.globals.items ≡ imported global_import (take l.import-index l.imports)
