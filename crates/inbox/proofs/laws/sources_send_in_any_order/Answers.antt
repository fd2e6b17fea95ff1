use Rattle.inbox.proofs.Spread.{spread_distinct, spread_ordered, flat_map-parts}
use Rattle.inbox.proofs.laws.sources_send_in_any_order.Goals as goal

pub returns-clause-distinct : goal.returns-clause-distinct
returns-clause-distinct c = λ sources spread sent_by sent. spread_distinct sent_by sent sources spread

pub returns-clause-ordered : goal.returns-clause-ordered
returns-clause-ordered c = λ sources spread sent_by sent. spread_ordered sent_by sent sources spread

pub returns-clause-parts : goal.returns-clause-parts
returns-clause-parts c = λ parts sent_by. flat_map-parts sent_by (λ part. part) parts
