use Rattle.std.proofs.Common.{◌≡◌, drop}
use Rattle.std.specs.List.{list_any}
use Rattle.plain_run.specs.inside.OneMachine.{is_called_in}
use Rattle.plain_run.proofs.machine.is_none_called.Given as goal

abbrev pub invariant-loop-held : goal.invariant-loop-held
invariant-loop-held l = list_any is_called_in l.vertices ≡ list_any is_called_in (drop l.held-index l.vertices)
