use Rattle.std.proofs.Common.{◌≡◌, map, take}
use Rattle.graph.specs.Parts.{part_entries}
use Rattle.superstep.specs.inside.Rows.{first_vertices}
use Rattle.superstep.proofs.states.first_state.Given as goal

abbrev pub invariant-loop-part : goal.invariant-loop-part
invariant-loop-part l = l.parts.items ≡ map first_vertices (map part_entries (take l.part-index l.part-items))
