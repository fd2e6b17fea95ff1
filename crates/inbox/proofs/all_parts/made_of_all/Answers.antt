use Rattle.rayon.proofs.ListFacts.{IfOk-then}
use Rattle.inbox.proofs.InShares.{shared_out}
use Rattle.inbox.proofs.all_parts.made_of_all.Goals as goal

pub returns : goal.returns
returns g c = IfOk-then c.together.result _ _ c.together.ensures (λ all same letters ids are.
    shared_out letters ids c.args.filed.items c.in_ok-by_share.by_share.items all.items (rw c.deref.ensures.value at c.in_ok-by_share.ensures) same are)
