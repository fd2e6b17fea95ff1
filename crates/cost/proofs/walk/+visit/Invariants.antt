use Rattle.cost.specs.inside.Walks.{unseen}
use Rattle.cost.proofs.Walking.{Walking}
use Rattle.cost.proofs.walk.+visit.Given as goal

abbrev pub decreases-visit : goal.decreases-visit
decreases-visit l = unseen l.ranks.now

abbrev pub invariant-loop-callee : goal.invariant-loop-callee
invariant-loop-callee l = Walking l.outlines l.function l.fn.ranks l.ranks l.callees l.callee-index
