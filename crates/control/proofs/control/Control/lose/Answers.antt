use Rattle.std.proofs.Common.{◌∙◌, ap}
use Rattle.control.specs.Events.{after_loss}
use Rattle.control.specs.Machine.{lost}
use Rattle.control.proofs.control.Control.lose.Goals as goal

pub returns-clause-after : goal.returns-clause-after
returns-clause-after c = c.begin_anew.ensures.after ∙ ap (λ m. after_loss (lost m c.args.worker)) c.self.view_is
