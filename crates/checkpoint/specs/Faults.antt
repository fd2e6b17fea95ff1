-- How a fault is printed.
use Rattle.std.specs.Prelude.{ℕ, List, codes}
use Rattle.checkpoint.specs.declared.fault.CheckpointFault.{CheckpointFault}
use Rattle.checkpoint.specs.declared.fault.CheckpointFault.TheVariants as fault

abbrev pub fault_word : CheckpointFault → List ℕ
fault_word fault.Header = codes "Header"
fault_word fault.Version = codes "Version"
fault_word fault.Truncated = codes "Truncated"
fault_word fault.Digest = codes "Digest"
fault_word fault.Order = codes "Order"
fault_word fault.OutOfMemory = codes "OutOfMemory"
