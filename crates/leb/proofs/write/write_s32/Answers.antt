use Rattle.std.proofs.Common.{◌≡◌, to_z, of_z, w64, arith}
use Rattle.std.proofs.lemmas.Int.{ints}
use Rattle.leb.specs.Spelling.{s32_spelling}
use Rattle.leb.proofs.write.write_s32.Goals as goal

pub returns-clause-ok : goal.returns-clause-ok
unfolding s32_spelling
returns-clause-ok c =
    let same : to_z w64 (of_z w64 c.from.result) ≡ c.args.number = omega (arith, ints, c.from.ensures) in
    rw same at c.write_signed.ensures.ok
