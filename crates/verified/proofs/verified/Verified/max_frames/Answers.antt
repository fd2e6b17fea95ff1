use Rattle.verified.proofs.verified.Verified.max_frames.Goals as goal

pub returns : goal.returns
returns c compute = (c.tables.ensures.tables.facts compute).frames
