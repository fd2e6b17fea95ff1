use Rattle.std.proofs.Common.{arith}
use Rattle.leb.specs.Spelling.{s32_spelling, s64_spelling}
use Rattle.leb.proofs.Shortest.{shortest_signed-spells, length-shortest_signed-le}
use Rattle.leb.proofs.Signed.{signed_again}
use Rattle.leb.proofs.laws.shortest_signed_is_read_back.Goals as goal

pub returns-clause-spells_32 : goal.returns-clause-spells_32
unfolding s32_spelling
returns-clause-spells_32 c = λ z fits. shortest_signed-spells 32 5 z (omega arith) (omega arith) fits

pub returns-clause-shortest_32 : goal.returns-clause-shortest_32
unfolding s32_spelling
returns-clause-shortest_32 c = length-shortest_signed-le 32 5

pub returns-clause-read_back_32 : goal.returns-clause-read_back_32
unfolding s32_spelling
returns-clause-read_back_32 c = λ z rest fits. signed_again 32 _ z rest (shortest_signed-spells 32 5 z (omega arith) (omega arith) fits)

pub returns-clause-spells_64 : goal.returns-clause-spells_64
unfolding s64_spelling
returns-clause-spells_64 c = λ z fits. shortest_signed-spells 64 10 z (omega arith) (omega arith) fits

pub returns-clause-shortest_64 : goal.returns-clause-shortest_64
unfolding s64_spelling
returns-clause-shortest_64 c = length-shortest_signed-le 64 10

pub returns-clause-read_back_64 : goal.returns-clause-read_back_64
unfolding s64_spelling
returns-clause-read_back_64 c = λ z rest fits. signed_again 64 _ z rest (shortest_signed-spells 64 10 z (omega arith) (omega arith) fits)
