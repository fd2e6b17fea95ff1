use Rattle.std.proofs.Common.{rules}
use Rattle.checkpoint.proofs.memory.MemoryKeepKeep.save.Goals as goal

pub returns-in-Err-clause-left : goal.returns-in-Err-clause-left
returns-in-Err-clause-left g c = search rules

pub returns-in-Err-clause-kept_bytes : goal.returns-in-Err-clause-kept_bytes
returns-in-Err-clause-kept_bytes g c = search rules
