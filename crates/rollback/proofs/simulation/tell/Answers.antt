use Rattle.rollback.proofs.simulation.tell.Goals as goal

pub returns-in-Ok-clause-kept : goal.returns-in-Ok-clause-kept
returns-in-Ok-clause-kept g c =
    let a = c.accept.ensures in
    record { keeps = a.keep; cause = a.cause; left = a.left; loads = a.loads }

pub returns-in-Err-clause-kept : goal.returns-in-Err-clause-kept
returns-in-Err-clause-kept g c =
    let a = c.accept.ensures in
    record { keeps = a.keep; cause = a.cause; left = a.left; loads = a.loads }
