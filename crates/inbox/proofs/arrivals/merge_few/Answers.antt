use Rattle.std.proofs.Common.{arith, ◌∙◌}
use Rattle.inbox.specs.Merging.{sent_in}
use Rattle.inbox.proofs.Arriving.{few_or_lost, few_same}
use Rattle.inbox.proofs.arrivals.merge_few.Goals as goal

pub arrivals_in_all-requires-clause-sorted : goal.arrivals_in_all-requires-clause-sorted
arrivals_in_all-requires-clause-sorted c = rw c.deref.ensures.value c.in_ok-letters.ensures.rising

pub message_count-requires : goal.message_count-requires
message_count-requires c =
    let made = rw c.deref.ensures.value at c.in_ok-parts.ensures in
    let all = few_or_lost (sent_in c.args.outboxes.now) c.args.ids.now c.in_ok-letters.letters.items c.all.result c.in_ok-parts.parts.items c.requires.distinct c.requires.apart c.all.ensures c.in_ok-letters.ensures made in
    rw (c.deref-2.ensures.value) (omega (arith, all, c.count.ensures, c.count.type_inv))

pub overflow_sub-dropped : goal.overflow_sub-dropped
overflow_sub-dropped c =
    let made = rw c.deref.ensures.value at c.in_ok-parts.ensures in
    let all = few_or_lost (sent_in c.args.outboxes.now) c.args.ids.now c.in_ok-letters.letters.items c.all.result c.in_ok-parts.parts.items c.requires.distinct c.requires.apart c.all.ensures c.in_ok-letters.ensures made in
    omega (arith, all, c.count.ensures, rw (c.deref-2.ensures.value) at c.message_count.ensures)

pub returns-clause-arrivals : goal.returns-clause-arrivals
returns-clause-arrivals c = λ ordered by.
    (rw c.deref.ensures.value at c.in_ok-parts.ensures)
    ∙ few_same (sent_in c.args.outboxes.now) c.in_ok-letters.letters.items ordered c.all.result c.args.ids.now c.all.ensures c.in_ok-letters.ensures by

pub returns-clause-dropped : goal.returns-clause-dropped
returns-clause-dropped c =
    let made = rw c.deref.ensures.value at c.in_ok-parts.ensures in
    let all = few_or_lost (sent_in c.args.outboxes.now) c.args.ids.now c.in_ok-letters.letters.items c.all.result c.in_ok-parts.parts.items c.requires.distinct c.requires.apart c.all.ensures c.in_ok-letters.ensures made in
    omega (arith, all, c.count.ensures, rw (c.deref-2.ensures.value) at c.message_count.ensures)
