use Rattle.std.proofs.Common.{◌≡◌, ◌++◌, ◌∷◌, [], List, ap, of_z, to_z, w64, rules, ◌∙◌}
use Rattle.std.proofs.lemmas.Int.{to_z-of_z}
use Rattle.inbox.specs.declared.slips.Slip.{Slip}
use Rattle.inbox.specs.inside.Slips.{joined}
use Rattle.inbox.proofs.Messages.{joined-append}
use Rattle.inbox.proofs.slips.Slips.push.Goals as goal

pub returns : goal.returns
returns c =
    let slip = c.args.slip in
    let places = c.self.inside.places.items in
    let values = c.self.inside.values.items in
    let value : to_z w64 (of_z w64 slip.value) ≡ slip.value = search (rules, to_z-of_z) in
    let more = c.in_default.ensures.items ∙ ap (λ z. values ++ z ∷ []) value in
    (λ i. joined (c.in_ok-push.ensures.items i) (more i))
    ∙ joined-append places values slip.place slip.value c.self.invariant
    ∙ ap (λ (slips : List Slip). slips ++ slip ∷ []) c.self.view_is
