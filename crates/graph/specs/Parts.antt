-- The parts that a graph is cut into.
use Rattle.std.specs.Prelude.{List}
use Rattle.std.specs.List.{flat_map}
use Rattle.std.specs.List.Sorted.{IsPermutation}
use Rattle.graph.specs.declared.parts.Part.{Part}
use Rattle.graph.specs.Entry.{Entry, FitsLimits, IsProper, entries_of}

abbrev pub part_entries : Part → List Entry
part_entries part = entries_of part.vertices.items

-- the vertices of all parts, one part after another
abbrev pub all_entries : List Part → List Entry
all_entries parts = flat_map part_entries parts

-- the vertices of these parts are together those of a graph within the limits
abbrev pub AreParts : List Part → Type 0
AreParts parts =
    (graph : List Entry) × IsProper graph × FitsLimits graph × IsPermutation (all_entries parts) graph
