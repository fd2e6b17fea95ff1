use Rattle.std.proofs.Common.{◌≡◌, ◌<◌, ◌∙◌, sym, ap, subst, length, false}
use Rattle.std.proofs.lemmas.List.{get_or_read}
use Rattle.control.specs.Machine.{Machine, is_alive}
use Rattle.control.proofs.control.Control.is_busy.Goals as goal

pub returns-else-index : goal.returns-else-index
returns-else-index c =
    let below = subst (λ (m : Machine). c.args.worker < length m.alive) (sym c.self.view_is) c.requires in
    let read = get_or_read c.self.inside.alive.items _ _ below c.index.ensures false in
    let lost : is_alive c.args.self.now c.args.worker ≡ false = sym (read ∙ ap (λ m. is_alive m c.args.worker) c.self.view_is) ∙ c.if-index.false in
    rw lost c.if-index.false
