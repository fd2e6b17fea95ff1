use Rattle.std.proofs.Common.{◌≡◌, ◌<◌, ◌++◌, ◌∷◌, [], Some, ap, arith, length, map, refl, rules, subst, sym, to_z, of_z, w64, ◌∙◌}
use Rattle.std.proofs.lemmas.Int.{to_z-of_z}
use Rattle.std.proofs.lemmas.List.{length-map}
use Rattle.std.proofs.lemmas.Result.{on_ok_weaker}
use Rattle.inbox.specs.inside.Blocks.{AreFiled, slips_of}
use Rattle.inbox.specs.inside.Grids.{spot_for}
use Rattle.inbox.proofs.Filed.{filed_more}
use Rattle.inbox.proofs.blocks.file.Goals as goal

pub returns-else-spot-len-clause-filed : goal.returns-else-spot-len-clause-filed
returns-else-spot-len-clause-filed c =
    let grid = c.args.grid in
    let blocks = c.args.blocks.now.items in
    let spot = c.in-Some.spot in
    let same_to : to_z w64 (of_z w64 c.args.to) ≡ c.args.to = search (rules, to_z-of_z) in
    let same_value : to_z w64 (of_z w64 c.args.value) ≡ c.args.value = search (rules, to_z-of_z) in
    let is : spot_for grid c.args.to ≡ Some spot = ap (spot_for grid) (sym same_to) ∙ sym c.spot_for.ensures ∙ c.in-Some.is in
    let inside : spot.block < length (map slips_of blocks) = omega (arith, length-map blocks slips_of, c.if-spot-len.false, c.len.ensures, c.args.blocks.now.ok) in
    on_ok_weaker c.push_slip.result (λ pushed sent letter to value filed.
    subst (AreFiled grid (sent ++ letter ∷ [])) (sym pushed)
    (filed_more grid sent letter (map slips_of blocks) spot _ refl (same_value ∙ sym value) (ap (spot_for grid) to ∙ is) inside filed))
    c.push_slip.ensures.pushed
