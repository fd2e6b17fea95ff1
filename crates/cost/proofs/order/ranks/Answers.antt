use Rattle.cost.proofs.Ranking.{ranked_answer, acyclic_answer, cycle_answer, accepted_answer}
use Rattle.cost.proofs.order.ranks.Goals as goal

pub returns-clause-ranked : goal.returns-clause-ranked
returns-clause-ranked c =
    ranked_answer c.args.valid.now c.in_ok-outlines.outlines c.in_ok-outlines.ensures c.rank_all.result c.rank_all.ensures.finished

pub returns-clause-acyclic : goal.returns-clause-acyclic
returns-clause-acyclic c =
    acyclic_answer c.args.valid.now c.in_ok-outlines.outlines c.in_ok-outlines.ensures c.rank_all.result c.rank_all.ensures.finished

pub returns-clause-cycle : goal.returns-clause-cycle
returns-clause-cycle c =
    cycle_answer c.args.valid.now c.in_ok-outlines.outlines c.in_ok-outlines.ensures c.rank_all.result c.rank_all.ensures.cycle

pub returns-clause-accepted : goal.returns-clause-accepted
returns-clause-accepted c =
    accepted_answer c.args.valid.now c.in_ok-outlines.outlines c.in_ok-outlines.ensures c.rank_all.result c.rank_all.ensures.cycle
