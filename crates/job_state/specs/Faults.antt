-- How a job's fault is printed.
use Rattle.std.specs.Prelude.{ℕ, List, codes}
use Rattle.job_state.specs.declared.fault.JobFault.{JobFault}
use Rattle.job_state.specs.declared.fault.JobFault.TheVariants as fault

abbrev pub fault_word : JobFault → List ℕ
fault_word (fault.OutOfMemory place) = codes "OutOfMemory"
fault_word fault.NoWorkers = codes "NoWorkers"
fault_word (fault.Settings setting) = codes "Settings"
fault_word fault.ThreadRefused = codes "ThreadRefused"
fault_word fault.Closed = codes "Closed"
