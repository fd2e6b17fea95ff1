use Rattle.verified.proofs.verified.Verified.size.Goals as goal

pub returns : goal.returns
returns c compute = (c.tables.ensures.tables.facts compute).size
