use Rattle.std.proofs.Common.{w64, rules}
use Rattle.inbox.proofs.Delivery.{none_unfit, none_from_search}
use Rattle.plain_run.proofs.machine.place_of.Goals as goal
use mir.Val.{SFits}

pub returns-in-Ok-clause-none : goal.returns-in-Ok-clause-none
returns-in-Ok-clause-none c =
    let signed : SFits w64 c.args.id = search rules in
    rw c.ok.ensures.value (none_from_search c.args.id c.in-Ok.id c.args.ids.now _ signed c.in-Ok.ensures c.requires c.binary_search.ensures.position)

pub returns-in-Err-clause-none : goal.returns-in-Err-clause-none
returns-in-Err-clause-none c =
    let signed : SFits w64 c.args.id = search rules in
    none_unfit c.args.id c.args.ids.now signed c.in-Err.ensures
