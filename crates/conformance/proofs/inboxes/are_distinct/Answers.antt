use Rattle.std.proofs.Common.{◌∙◌, sym}
use Rattle.conformance.proofs.Letters.{distinct_none, distinct_with}
use Rattle.conformance.proofs.inboxes.are_distinct.Goals as goal

pub loop-first-preserved : goal.loop-first-preserved
loop-first-preserved c = λ distinct.
    c.loop-first.invariant (rw c.in-Some.ensures.cases.0
    (distinct_with c.in-Some.first.now c.in-Some.others.now (sym c.is_among.ensures ∙ c.if-is_among.false) distinct))

pub returns : goal.returns
returns c = λ _. c.loop-first.invariant (distinct_none c.loop-first.rest.now c.in_default.ensures.cases)
