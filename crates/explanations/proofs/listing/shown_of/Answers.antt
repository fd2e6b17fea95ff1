use Rattle.std.proofs.Common.{◌∙◌, ◌++◌, ap}
use Rattle.explanations.proofs.listing.shown_of.Goals as goal

pub returns-clause-cut : goal.returns-clause-cut
returns-clause-cut c = record {
  before = c.split_at.result.0.now;
  after = c.split_at-2.result.1.now;
  joined = c.split_at.ensures.by_index.0 ∙ ap (λ xs. c.split_at.result.0.now ++ xs) c.split_at-2.ensures.by_index.0;
  numbered = c.instructions_in-first.ensures.counted;
}
