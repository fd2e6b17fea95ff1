use Rattle.explanations.proofs.Listings.{first_part}
use Rattle.explanations.proofs.listing.front.Goals as goal

pub returns : goal.returns
returns c = first_part c.args.lines.now c.split_at.result.0.now c.split_at.result.1.now c.split_at.ensures.by_index.0
