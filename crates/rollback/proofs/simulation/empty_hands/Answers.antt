use Rattle.std.proofs.Common.{List, Option, ◌++◌, ◌∷◌, [], ◌∙◌, ap, None}
use Rattle.std.proofs.lemmas.List.{map_push, replicate_more}
use Rattle.std.specs.Prelude.{option_map}
use Rattle.control.specs.declared.control.Out.{Out}
use Rattle.control.specs.Stamps.{task_out}
use Rattle.rollback.specs.inside.Simulating.{stamps}
use Rattle.rollback.proofs.simulation.empty_hands.Goals as goal

pub loop-worker-preserved : goal.loop-worker-preserved
loop-worker-preserved g c =
    let hands = c.loop-worker in
    ap (λ held. stamps held) c.in_ok-push.ensures.items
    ∙ map_push (option_map task_out) hands.held.items None
    ∙ ap (λ (outs : List (Option Out)). outs ++ None ∷ []) hands.invariant
    ∙ replicate_more hands.worker None
