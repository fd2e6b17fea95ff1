use Rattle.std.proofs.Common.{◌≡◌, take}
use Rattle.verified.specs.Spaces.{memory_import, imported}
use Rattle.validate.proofs.spaces.memories.Given as goal

abbrev pub invariant-loop-import : goal.invariant-loop-import
invariant-loop-import l = l.memories.items ≡ imported memory_import (take l.import-index l.imports)
