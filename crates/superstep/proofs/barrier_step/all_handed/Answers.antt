use Rattle.std.proofs.Common.{List, sym, subst, ◌∙◌}
use Rattle.std.specs.List.{AllZip}
use Rattle.std.proofs.lemmas.Iterator.{YieldsList-from_zip}
use Rattle.std.proofs.lemmas.Iterator.Adapters.{YieldsList-from_vec}
use Rattle.std.proofs.lemmas.Iterator.Consumers.{YieldsList-at, YieldsList-end}
use Rattle.std.proofs.lemmas.List.{map-id}
use Rattle.std.proofs.lemmas.Slice.Zip.{all_zipped_more}
use Rattle.superstep.proofs.Deliveries.{Delivery, IsHanded, pairs_handed}
use Rattle.superstep.proofs.barrier_step.all_handed.Goals as goal

pub loop-pair-init : goal.loop-pair-init
loop-pair-init c = rw c.in_ok-parts.ensures.items tt

pub loop-pair-preserved : goal.loop-pair-preserved
loop-pair-preserved c =
    rw c.in_ok-push.ensures.items
    (all_zipped_more IsHanded c.loop-pair.yielded c.loop-pair.parts.items _ c.in_ok-part.part c.loop-pair.invariant c.in_ok-part.ensures)

pub returns : goal.returns
returns c = λ inboxes same long none.
    let vertices = YieldsList-from_vec c.args.vertices.items c.into_iter.ensures.rest (c.into_iter.ensures.len ∙ c.args.vertices.ok.0) in
    let arrivals = YieldsList-from_vec c.args.arrivals.items c.zip-pair-items.ensures.second.0 (c.zip-pair-items.ensures.second.1 ∙ c.args.arrivals.ok.0) in
    let pairs = YieldsList-at c.into_iter-pair-iterator.ensures.into_iter_gives (YieldsList-from_zip (YieldsList-at c.zip-pair-items.ensures.first vertices) arrivals) in
    let all = YieldsList-end pairs c.loop-pair.yielded c.loop-pair.pair-iterator c.loop-pair.yielded_by _ c.next.new.self c.in-None.is c.next.ensures.steps in
    pairs_handed c.args.vertices.items c.args.arrivals.items c.loop-pair.parts.items inboxes
    (subst (λ (given : List Delivery). AllZip IsHanded given c.loop-pair.parts.items) (sym (map-id c.loop-pair.yielded) ∙ all.0) c.loop-pair.invariant)
    same long none
