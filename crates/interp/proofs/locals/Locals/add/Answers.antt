use Rattle.std.proofs.Common.{◌≡◌, List, length, take, refl, sym, ap, ◌∙◌}
use Rattle.wasm_ast.specs.declared.types.Value.{Value}
use Rattle.interp.specs.inside.Split.{Below}
use Rattle.interp.proofs.Lists.{take-take}
use Rattle.interp.proofs.Stored.{stored, stored_take}
use Rattle.interp.proofs.locals.Locals.add.Goals as goal

pub returns-clause-below : goal.returns-clause-below
returns-clause-below c =
    let base = c.self.inside.base in
    let old = c.self.inside.cells.items in
    let new = c.add_zeros.new.cells.items in
    let e : take base new ≡ take base old = sym (take-take base (length old) new c.self.invariant.0) ∙ ap (λ l. take base l) c.add_zeros.ensures.kept in
    let below : List Value → Below = λ l. record { values = l; room = c.self.inside.room } in
    ap below (sym (stored_take base new (take base new) refl) ∙ ap stored e ∙ stored_take base old (take base old) refl) ∙ ap (λ s. s.below) c.self.view_is
