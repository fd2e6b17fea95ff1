use Rattle.verified.proofs.verified.Verified.max_operands.Goals as goal

pub returns : goal.returns
returns c compute = (c.tables.ensures.tables.facts compute).operands
