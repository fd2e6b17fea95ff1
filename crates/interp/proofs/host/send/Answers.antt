use Rattle.std.proofs.Common.{◌≡◌, refl, arith, w64, to_z, of_z}
use Rattle.std.proofs.lemmas.Int.{ints}
use Rattle.interp.proofs.host.send.Goals as goal

pub returns-clause-acts : goal.returns-clause-acts
returns-clause-acts c = λ locals globals bytes count.
    let to : to_z w64 (of_z w64 c.cast_signed.result) ≡ c.cast_signed.result = omega (arith, ints) in
    let sent : to_z w64 (of_z w64 c.cast_signed-2.result) ≡ c.cast_signed-2.result = omega (arith, ints) in
    rw (c.pop-value.ensures.here, c.pop-target.ensures.here, c.in_ok-send.ensures.ok, to, sent, c.cast_signed.ensures, c.cast_signed-2.ensures) refl
