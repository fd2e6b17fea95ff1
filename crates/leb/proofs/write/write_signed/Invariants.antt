use Rattle.std.proofs.Common.{◌++◌, vec_len, vec_capacity, unsigned_abs}
use Rattle.leb.specs.Spelling.{FitsBits, shortest_signed}
use Rattle.leb.proofs.Writing.{IsWritten}
use Rattle.leb.proofs.write.write_signed.Given as goal

abbrev pub invariant-loop-out : goal.invariant-loop-out
invariant-loop-out l =
    IsWritten FitsBits shortest_signed (l.fn.out.items ++ shortest_signed l.most l.number) l.out.items (vec_len l.out) (vec_capacity l.out) l.rest

abbrev pub decreases-loop-out : goal.decreases-loop-out
decreases-loop-out l = unsigned_abs l.rest
