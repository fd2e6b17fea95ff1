use Rattle.std.proofs.Common.{ℕ, ℤ, List, [], ◌∷◌, ◌++◌, ◌+◌, ◌≡◌, true, false, rules, sym, ap, ◌∙◌, to_z, of_z, w64, FitsSigned, unsigned_abs}
use Rattle.std.proofs.lemmas.Int.{to_z-of_z}
use Rattle.leb.specs.Spelling.{shortest_signed, FitsBits, fits_seven_bits, low_bits, high_bits}
use Rattle.leb.proofs.Bits.{fits_seven_bits-in_range}
use Rattle.leb.proofs.Writing.{IsWritten-more, Continues-signed, shortest_signed-last}
use Rattle.leb.proofs.write.write_signed.Goals as goal

pub loop-out-preserved : goal.loop-out-preserved
loop-out-preserved c =
    let w = c.loop-out.invariant in
    let rest = to_z w64 c.loop-out.rest-bits in
    let large : fits_seven_bits rest ≡ false = fits_seven_bits-in_range rest ∙ sym c.contains.ensures.value ∙ c.loop-out-test.true in
    let byte_fits : FitsSigned w64 c.rem_euclid.result = search rules in
    let high_fits : FitsSigned w64 c.div_euclid-rest.result = search rules in
    let byte : unsigned_abs (to_z w64 (of_z w64 c.rem_euclid.result)) ≡ low_bits rest = ap unsigned_abs (to_z-of_z w64 _ byte_fits ∙ c.rem_euclid.ensures.value) in
    let high : to_z w64 (of_z w64 c.div_euclid-rest.result) ≡ high_bits rest = to_z-of_z w64 _ high_fits ∙ c.div_euclid-rest.ensures in
    rw high (IsWritten-more FitsBits shortest_signed _ _ _ _ _ _ _ _ _ _ w (Continues-signed w.most rest w.some w.enough large)
    ((rw c.unwrap.ensures at c.push.ensures.items) ∙ ap (λ (b : ℕ). c.loop-out.out.items ++ (b + 128) ∷ []) byte)
    (rw c.unwrap.ensures at c.push.ensures.len) c.push.ensures.capacity)

pub returns-clause-ok : goal.returns-clause-ok
returns-clause-ok c =
    let w = c.loop-out.invariant in
    let rest = to_z w64 c.loop-out.rest-bits in
    let small : fits_seven_bits rest ≡ true = fits_seven_bits-in_range rest ∙ sym c.contains.ensures.value ∙ c.loop-out-test.false in
    let byte_fits : FitsSigned w64 c.rem_euclid-2.result = search rules in
    let byte : unsigned_abs (to_z w64 (of_z w64 c.rem_euclid-2.result)) ≡ low_bits rest = ap unsigned_abs (to_z-of_z w64 _ byte_fits ∙ c.rem_euclid-2.ensures.value) in
    (rw c.unwrap-2.ensures at c.push-2.ensures.items)
    ∙ ap (λ (b : ℕ). c.loop-out.out.items ++ b ∷ []) byte
    ∙ ap (λ (xs : List ℕ). c.loop-out.out.items ++ xs) (sym (shortest_signed-last w.most rest w.some small))
    ∙ w.completes
    ∙ ap (λ (z : ℤ). c.args.out.now.items ++ shortest_signed c.args.most z) (to_z-of_z w64 c.args.number c.ranges.number)
