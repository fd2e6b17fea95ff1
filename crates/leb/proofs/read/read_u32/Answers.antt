use Rattle.std.proofs.Common.{arith}
use Rattle.leb.specs.Faults.{AreZeros}
use Rattle.leb.proofs.Answers.{unsigned_answers}
use Rattle.leb.proofs.Faults.{IsMost}
use Rattle.leb.proofs.Unused.{zeros_of_four}
use Rattle.leb.proofs.read.read_u32.Goals as goal

pub returns : goal.returns
returns c =
    let most : IsMost 32 5 = record { some = omega arith; enough = omega arith; least = omega arith } in
    let read = unsigned_answers 32 4 (AreZeros 4) c.args.bytes.now c.args.at c.unsigned.result most zeros_of_four (λ i. omega (arith, c.type_inv.bytes i))
    c.unsigned.ensures.inside c.unsigned.ensures.exact in
    record {
      found = read.found;
      inside = c.unsigned.ensures.inside;
      only = read.only;
      truncated = read.truncated;
      too_long = read.too_long;
      unused_bits = read.unused_bits;
      exact = c.unsigned.ensures.exact;
    }
