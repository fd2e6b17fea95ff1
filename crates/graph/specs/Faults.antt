-- How a fault is printed: its word and the number of its line, or `-` where it has none.
use Rattle.std.specs.Prelude.{ℕ, List, ◌++◌, codes}
use Rattle.std.specs.Fmt.{decimal}
use Rattle.graph.specs.declared.fault.GraphFault.{GraphFault}
use Rattle.graph.specs.declared.fault.GraphFault.TheVariants as fault

abbrev pub fault_text : GraphFault → List ℕ
fault_text (fault.Line number) = codes "Line " ++ decimal number
fault_text (fault.DuplicateVertex number) = codes "DuplicateVertex " ++ decimal number
fault_text (fault.UnknownEnd number) = codes "UnknownEnd " ++ decimal number
fault_text (fault.Number number) = codes "Number " ++ decimal number
fault_text (fault.OverLimit number) = codes "OverLimit " ++ decimal number
fault_text fault.OutOfMemory = codes "OutOfMemory -"
