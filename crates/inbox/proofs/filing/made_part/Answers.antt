use Rattle.std.proofs.Common.{◌∙◌}
use Rattle.rayon.proofs.ListFacts.{IfOk-then}
use Rattle.inbox.proofs.Filed.{part_made}
use Rattle.inbox.proofs.filing.made_part.Goals as goal

pub returns : goal.returns
returns g c = IfOk-then c.together.result _ _ c.together.ensures (λ inboxes is letters ids are.
    is ∙ part_made letters ids c.args.part.now c.in_ok-made.made.items (rw c.deref.ensures.value at c.in_ok-made.ensures) are)
