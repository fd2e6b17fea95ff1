use Rattle.std.proofs.Common.{◌≡◌, of_z, to_z, w32, w64, arith}
use Rattle.std.proofs.lemmas.Int.{ints}
use Rattle.leb.proofs.read.signed_32.Goals as goal

pub returns-clause-exact : goal.returns-clause-exact
returns-clause-exact c =
    let number = c.in_ok-number.number in
    let fits = c.in_ok-number.ensures.fits in
    let same : to_z w32 (of_z w32 (to_z w64 (of_z w64 number))) ≡ number = omega (arith, ints, fits.low, fits.high) in
    rw same c.in_ok-number.ensures.exact
