use Rattle.std.proofs.Common.{w64}
use Rattle.std.proofs.lemmas.Int.{to_z-of_z}
use Rattle.leb.specs.Spelling.{s64_spelling}
use Rattle.leb.proofs.write.write_s64.Goals as goal

pub returns-clause-ok : goal.returns-clause-ok
unfolding s64_spelling
returns-clause-ok c = rw (to_z-of_z w64 c.args.number c.ranges.number) at c.write_signed.ensures.ok
