use Rattle.std.proofs.Common.{arith}
use Rattle.leb.specs.Faults.{AreSigns}
use Rattle.leb.proofs.Answers.{signed_answers}
use Rattle.leb.proofs.Faults.{IsMost}
use Rattle.leb.proofs.Unused.{signs_of_one}
use Rattle.leb.proofs.read.read_s64.Goals as goal

pub returns : goal.returns
returns c =
    let most : IsMost 64 10 = record { some = omega arith; enough = omega arith; least = omega arith } in
    let read = signed_answers 64 9 (AreSigns 1) c.args.bytes.now c.args.at c.signed.result most signs_of_one (λ i. omega (arith, c.type_inv.bytes i))
    c.signed.ensures.inside c.signed.ensures.exact in
    record {
      found = read.found;
      inside = c.signed.ensures.inside;
      only = read.only;
      truncated = read.truncated;
      too_long = read.too_long;
      unused_bits = read.unused_bits;
      exact = c.signed.ensures.exact;
    }
