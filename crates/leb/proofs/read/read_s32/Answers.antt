use Rattle.std.proofs.Common.{arith}
use Rattle.leb.specs.Faults.{AreSigns}
use Rattle.leb.proofs.Answers.{signed_answers}
use Rattle.leb.proofs.Faults.{IsMost}
use Rattle.leb.proofs.Unused.{signs_of_four}
use Rattle.leb.proofs.read.read_s32.Goals as goal

pub returns : goal.returns
returns c =
    let most : IsMost 32 5 = record { some = omega arith; enough = omega arith; least = omega arith } in
    let read = signed_answers 32 4 (AreSigns 4) c.args.bytes.now c.args.at c.signed_32.result most signs_of_four (λ i. omega (arith, c.type_inv.bytes i))
    c.signed_32.ensures.inside c.signed_32.ensures.exact in
    record {
      found = read.found;
      inside = c.signed_32.ensures.inside;
      only = read.only;
      truncated = read.truncated;
      too_long = read.too_long;
      unused_bits = read.unused_bits;
      exact = c.signed_32.ensures.exact;
    }
