-- Why the files of an import are not written.
use Rattle.std.proofs.Common.{inl}
use Rattle.requests.specs.declared.request.ImportRequest.{ImportRequest}
use Rattle.sources.specs.declared.fault.CommandFault.{CommandFault}
use Rattle.sources.specs.declared.fault.CommandFault.TheVariants as command
use Rattle.sources.specs.Disk.{Disk}
use Rattle.sources.specs.Reading.{IsUnwritable}
use Rattle.conversions.specs.Importing.{IsUnwritten}
use Rattle.conversions.specs.Causes.{IsBeforeWriting}

-- a file that is not written is told of after reading
pub unwritten_late : (asked : ImportRequest) (fault : CommandFault) (P : Type 0) → IsUnwritten asked fault → IsBeforeWriting fault → P
unwritten_late asked (command.Unwritable refused) P is before = absurd before
unwritten_late asked command.OutOfMemory P is before = absurd before
unwritten_late asked fault P is before = absurd is

pub graph_unwritten : (disk : Disk) (asked : ImportRequest) (fault : CommandFault) → IsUnwritable disk asked.graph.now fault
    → IsUnwritten asked fault
graph_unwritten disk asked (command.Unwritable refused) (same, refuses) = inl same
graph_unwritten disk asked command.OutOfMemory is = tt
graph_unwritten disk asked fault is = absurd is
