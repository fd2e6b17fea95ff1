use Rattle.inbox.proofs.shares.Share.targets.Goals as goal

pub returns-then-has_all : goal.returns-then-has_all
returns-then-has_all c = c.has_all.ensures.0 c.if-has_all.true
