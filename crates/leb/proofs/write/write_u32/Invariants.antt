use Rattle.std.proofs.Common.{◌++◌, vec_len, vec_capacity}
use Rattle.leb.specs.Spelling.{shortest_unsigned}
use Rattle.leb.proofs.Writing.{IsWritten, FitsUnsigned}
use Rattle.leb.proofs.write.write_u32.Given as goal

abbrev pub invariant-loop-rest : goal.invariant-loop-rest
invariant-loop-rest l =
    IsWritten FitsUnsigned shortest_unsigned (l.fn.out.items ++ shortest_unsigned 5 l.number) l.out.items (vec_len l.out) (vec_capacity l.out) l.rest

abbrev pub decreases-loop-rest : goal.decreases-loop-rest
decreases-loop-rest l = l.rest
