use Rattle.std.proofs.Common.{arith}
use Rattle.std.proofs.lemmas.Grind.{common_steps}
use Rattle.std.proofs.lemmas.List.Elements.{filter_map-append}
use Rattle.validate.proofs.spaces.tables.Goals as goal

pub loop-import-preserved : goal.loop-import-preserved
loop-import-preserved c = grind (arith, common_steps, filter_map-append)
