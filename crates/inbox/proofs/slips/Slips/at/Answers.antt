use Rattle.std.proofs.Common.{◌≡◌, List, ap, arith, length, get_or, sym, ◌∙◌, of_z, to_z, w64, rules}
use Rattle.std.proofs.lemmas.Int.{to_z-of_z}
use Rattle.inbox.specs.declared.slips.Slip.{Slip}
use Rattle.inbox.specs.inside.Slips.{joined}
use Rattle.inbox.proofs.Messages.{get_or-joined, length-joined}
use Rattle.inbox.proofs.slips.Slips.at.Goals as goal

pub index-requires : goal.index-requires
index-requires c =
    let places = c.self.inside.places.items in
    let values = c.self.inside.values.items in
    let whole : length (joined places values) ≡ length c.args.self.now = ap length c.self.view_is in
    omega (arith, c.requires, whole, length-joined places values c.self.invariant, c.self.inside.places.ok)

pub index-requires-2 : goal.index-requires-2
index-requires-2 c =
    let places = c.self.inside.places.items in
    let values = c.self.inside.values.items in
    let whole : length (joined places values) ≡ length c.args.self.now = ap length c.self.view_is in
    omega (arith, c.requires, whole, length-joined places values c.self.invariant, c.self.invariant, c.self.inside.values.ok)

pub returns : goal.returns
returns c = λ d.
    let places = c.self.inside.places.items in
    let values = c.self.inside.values.items in
    let index = c.args.index in
    let whole : length (joined places values) ≡ length c.args.self.now = ap length c.self.view_is in
    let here = get_or-joined places values index d c.index-2.result.now c.index.result.now c.self.invariant (omega (arith, c.requires, whole, length-joined places values c.self.invariant)) in
    let value : to_z w64 (of_z w64 c.index-2.result.now) ≡ c.index-2.result.now = search (rules, to_z-of_z) in
    (λ i. record { place = c.index.ensures i; value = (value ∙ c.index-2.ensures) i })
    ∙ sym here
    ∙ ap (λ (slips : List Slip). get_or slips index d) c.self.view_is
