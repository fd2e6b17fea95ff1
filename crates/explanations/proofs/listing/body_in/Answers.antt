use Rattle.explanations.proofs.Listings.{stretch_in}
use Rattle.explanations.proofs.listing.body_in.Goals as goal

pub returns : goal.returns
returns c = stretch_in c.args.lines.now c.behind-rest.result.now c.front.result.now c.behind-rest.ensures c.front.ensures
