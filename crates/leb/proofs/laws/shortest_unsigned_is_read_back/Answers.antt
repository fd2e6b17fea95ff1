use Rattle.std.proofs.Common.{arith}
use Rattle.leb.specs.Spelling.{u32_spelling}
use Rattle.leb.proofs.Shortest.{shortest_unsigned-spells, length-shortest_unsigned-le}
use Rattle.leb.proofs.Unsigned.{unsigned_again}
use Rattle.leb.proofs.laws.shortest_unsigned_is_read_back.Goals as goal

pub returns-clause-spells : goal.returns-clause-spells
unfolding u32_spelling
returns-clause-spells c = λ n fits. shortest_unsigned-spells 32 5 n (omega arith) (omega arith) fits

pub returns-clause-shortest : goal.returns-clause-shortest
unfolding u32_spelling
returns-clause-shortest c = length-shortest_unsigned-le 32 5

pub returns-clause-read_back : goal.returns-clause-read_back
unfolding u32_spelling
returns-clause-read_back c = λ n rest fits. unsigned_again 32 _ n rest (shortest_unsigned-spells 32 5 n (omega arith) (omega arith) fits)
