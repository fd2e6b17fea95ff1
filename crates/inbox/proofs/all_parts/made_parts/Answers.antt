use Rattle.std.proofs.Common.{[], ◌∷◌, ◌++◌, take, ap, sym, ◌∙◌, arith}
use Rattle.rayon.proofs.ListFacts.{AllZip-append}
use Rattle.std.proofs.lemmas.List.{take_all, take_more}
use Rattle.inbox.specs.inside.Filing.{IsMadeFrom}
use Rattle.inbox.proofs.all_parts.made_parts.Goals as goal

pub loop-part-preserved : goal.loop-part-preserved
loop-part-preserved g c =
    let parts = c.args.parts.now in
    let part = c.part-item.result in
    let same = c.counted.ensures.inboxes in
    let one : IsMadeFrom part c.counted.result = record {
      inboxes = λ letters ids are. rw same (c.in_ok-inboxes.ensures letters ids are);
      count = rw same c.counted.ensures.count;
    } in
    let before = take c.loop-part.part-index parts in
    let more = AllZip-append IsMadeFrom before (part ∷ []) c.loop-part.all.items (c.counted.result ∷ []) c.loop-part.invariant.made (one, tt) in
    let grown = take_more parts c.loop-part.part-index part c.loop-part-test.true ∙ ap (λ part. before ++ part ∷ []) (sym c.part-item.is) in
    record {
      made = rw (grown, c.push_reserved.ensures.items) more;
      len = omega (arith, c.push_reserved.ensures.len, c.loop-part.invariant.len);
      room = c.push_reserved.ensures.capacity ∙ c.loop-part.invariant.room;
    }

pub push_reserved-requires : goal.push_reserved-requires
push_reserved-requires g c = omega (arith, c.loop-part.invariant.len, c.loop-part.invariant.room, c.loop-part-test.true)

pub returns : goal.returns
returns g c = rw (take_all c.loop-part.part-index c.args.parts.now c.loop-part-test.false) at c.loop-part.invariant.made
