use Rattle.std.proofs.Common.{rules}
use Rattle.checkpoint.proofs.files.FileKeepKeep.save.Goals as goal

pub returns-in-Err-clause-kept : goal.returns-in-Err-clause-kept
returns-in-Err-clause-kept g c = search rules

pub returns-in-Err-clause-kept_bytes : goal.returns-in-Err-clause-kept_bytes
returns-in-Err-clause-kept_bytes g c = search rules
