use Rattle.std.proofs.Common.{List, not, ap, ◌∙◌}
use Rattle.std.specs.List.{list_any}
use Rattle.plain_run.specs.declared.machine.Held.{Held}
use Rattle.plain_run.specs.inside.OneMachine.{is_called_in}
use Rattle.plain_run.proofs.PlainSteps.{called_rows}
use Rattle.plain_run.proofs.machine.OneMachine.is_quiet.Goals as goal

pub returns : goal.returns
returns c =
    c.is_none_called.ensures
    ∙ ap (λ (vertices : List Held). not (list_any is_called_in vertices)) c.deref.ensures.value
    ∙ ap not (called_rows c.args.self.now.vertices.items)
