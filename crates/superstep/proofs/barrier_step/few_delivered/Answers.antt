use Rattle.std.proofs.Common.{◌∙◌}
use Rattle.std.proofs.lemmas.Result.{IfOk-weaker}
use Rattle.superstep.proofs.Deliveries.{all_arrivals}
use Rattle.superstep.proofs.barrier_step.few_delivered.Goals as goal

pub merge_few-requires-clause-apart : goal.merge_few-requires-clause-apart
merge_few-requires-clause-apart c =
    let spread = c.requires.spread in
    c.letters_are_spread.ensures.apart spread.0 spread.1 spread.2

pub merge_few-requires-clause-distinct : goal.merge_few-requires-clause-distinct
merge_few-requires-clause-distinct c =
    let spread = c.requires.spread in
    c.letters_are_spread.ensures.distinct spread.0 spread.1 spread.2

pub returns-clause-arrivals : goal.returns-clause-arrivals
returns-clause-arrivals c =
    IfOk-weaker c.merge_few.result _ _ (λ merged made lefts ordered is.
    let sent = c.letters_are_spread.ensures.sent lefts ordered is in
    made sent.0 sent.1 ∙ all_arrivals c.args.ids.now lefts ordered sent.0 sent.2 is.ids)
    c.merge_few.ensures.arrivals

pub returns-clause-dropped : goal.returns-clause-dropped
returns-clause-dropped c =
    IfOk-weaker c.merge_few.result _ _ (λ merged made lefts ordered is. made ∙ c.letters_are_spread.ensures.dropped lefts ordered is)
    c.merge_few.ensures.dropped
