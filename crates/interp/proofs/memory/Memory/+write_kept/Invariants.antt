use Rattle.std.proofs.Common.{length}
use Rattle.interp.proofs.memory.Memory.+write_kept.Given as goal

abbrev pub decreases-write_kept : goal.decreases-write_kept
decreases-write_kept l = length l.others.now
