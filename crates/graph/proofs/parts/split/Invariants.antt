use Rattle.std.proofs.Common.{◌≡◌, map, vec_items}
use Rattle.graph.specs.Entry.{entries_of}
use Rattle.graph.specs.Parts.{part_entries}
use Rattle.graph.proofs.parts.split.Given as goal

abbrev pub invariant-loop-vertices : goal.invariant-loop-vertices
invariant-loop-vertices l = map part_entries l.split.items ≡ map entries_of (map vec_items l.yielded)
