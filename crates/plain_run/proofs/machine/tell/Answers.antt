use Rattle.std.proofs.Common.{List, map, ap, refl, sym, ◌∙◌}
use Rattle.plain_run.specs.declared.machine.Held.{Held}
use Rattle.superstep.specs.Ending.{is_finished}
use Rattle.plain_run.specs.inside.OneMachine.{value_in}
use Rattle.plain_run.proofs.PlainSteps.{values_shown}
use Rattle.plain_run.proofs.machine.tell.Goals as goal
use Rattle.plain_run.proofs.machine.tell.Goals.{else-is_quiet, then-is_quiet}

pub returns : goal.returns
returns c = record {
  how = elim c.if-is_quiet.branch [
    | then-is_quiet w ↦ ap is_finished w.how-is ∙ sym w.if-is_quiet.true ∙ c.is_quiet.ensures
    | else-is_quiet w ↦ ap is_finished w.how-is ∙ sym w.if-is_quiet.false ∙ c.is_quiet.ensures
  ];
  superstep = refl;
  values = c.in_ok-values.ensures ∙ ap (λ (vertices : List Held). map value_in vertices) c.deref.ensures.value ∙ values_shown c.args.plain.vertices.items;
  units = refl;
  dropped = refl;
  since = refl;
  by_superstep = refl;
}
