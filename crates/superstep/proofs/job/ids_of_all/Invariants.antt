use Rattle.std.proofs.Common.{◌≡◌, map, take, vec_items}
use Rattle.graph.specs.Entry.{ids}
use Rattle.graph.specs.Parts.{part_entries}
use Rattle.superstep.proofs.job.ids_of_all.Given as goal

abbrev pub invariant-loop-part : goal.invariant-loop-part
invariant-loop-part l = map vec_items l.all.items ≡ map ids (map part_entries (take l.part-index l.parts))
