use Rattle.std.proofs.Common.{◌≡◌}
use Rattle.std.specs.List.{flat_map}
use Rattle.graph.specs.Entry.{entries_of}
use Rattle.graph.specs.Parts.{part_entries}
use Rattle.graph.proofs.parts.together.Given as goal

abbrev pub invariant-loop-part : goal.invariant-loop-part
invariant-loop-part l = entries_of l.vertices.items ≡ flat_map part_entries l.yielded
