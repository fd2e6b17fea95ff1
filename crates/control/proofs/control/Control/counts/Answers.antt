use Rattle.std.proofs.Common.{◌≡◌, ◌<◌, ◌∙◌, sym, ap, subst, length, true, false}
use Rattle.std.specs.Prelude.{◌==◌}
use Rattle.std.proofs.lemmas.List.{get_or_read}
use Rattle.control.specs.Machine.{Machine, is_alive, is_out}
use Rattle.control.proofs.control.Control.counts.Goals as goal

pub returns-then-is_out : goal.returns-then-is_out
returns-then-is_out c =
    let below = subst (λ (m : Machine). c.args.worker < length m.alive) (sym c.self.view_is) c.requires in
    let read = get_or_read c.self.inside.alive.items _ _ below c.index.ensures false in
    let alive : is_alive c.args.self.now c.args.worker ≡ true = sym (read ∙ ap (λ m. is_alive m c.args.worker) c.self.view_is) ∙ c.if-index.true in
    let out : is_out c.args.self.now c.args.worker c.args.task ≡ true = sym c.is_out.ensures ∙ c.if-is_out.true in
    rw (alive, out) (ap (λ m. c.args.task.epoch == m.epoch) c.self.view_is)
