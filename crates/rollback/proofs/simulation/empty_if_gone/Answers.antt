use Rattle.std.proofs.Common.{sym, refl, ◌∙◌}
use Rattle.rollback.proofs.simulation.empty_if_gone.Goals as goal

pub returns-then-not-is_gone : goal.returns-then-not-is_gone
returns-then-not-is_gone g c = rw (sym c.is_gone.ensures ∙ c.if-not-is_gone.true) refl

pub returns : goal.returns
returns g c = rw (sym c.is_gone.ensures ∙ c.if-not-is_gone.false) c.let_go.ensures.after
