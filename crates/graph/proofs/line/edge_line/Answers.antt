use Rattle.std.proofs.Common.{◌≡◌, Bool, true, false, not, codes, of_z, to_z, w64, refl, rules, sym}
use Rattle.std.proofs.lemmas.Int.{to_z-of_z}
use Rattle.std.specs.Str.{bytes_eq}
use Rattle.graph.proofs.line.edge_line.Goals as goal

is_same : (same apart : Bool) → apart ≡ not same → apart ≡ false → same ≡ true
is_same true apart is off = refl
is_same false apart is off = absurd cc

pub returns-in-Some-Some-Some : goal.returns-in-Some-Some-Some
returns-in-Some-Some-Some c =
    let found = c.in-Some-Some-Some in
    let number : to_z w64 (of_z w64 found.value) ≡ found.value = search (rules, to_z-of_z) in
    let named : bytes_eq c.args.name.now (codes "e") ≡ true = is_same _ _ (rw c.as_slice.ensures at c.ne.ensures) c.if-ne.false in
    rw (number, named, sym found.ensures, sym found.ensures', sym found.ensures'') refl
