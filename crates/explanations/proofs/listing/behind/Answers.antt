use Rattle.explanations.proofs.Listings.{last_part}
use Rattle.explanations.proofs.listing.behind.Goals as goal

pub returns : goal.returns
returns c = last_part c.args.lines.now c.split_at.result.0.now c.split_at.result.1.now c.split_at.ensures.by_index.0
