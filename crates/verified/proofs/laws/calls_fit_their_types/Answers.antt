use Rattle.verified.proofs.Fitting.{fits}
use Rattle.verified.proofs.laws.calls_fit_their_types.Goals as goal

pub returns : goal.returns
returns c = fits
