use Rattle.std.proofs.Common.{◌≡◌, ◌∷◌, ◌++◌, [], List, Vec, Global, ℕ, map, vec_items, take, ap, sym, ◌∙◌, arith}
use Rattle.std.proofs.lemmas.List.{map-append, map_push, take_all, take_more}
use Rattle.inbox.specs.declared.arrivals.Arrival.{Arrival}
use Rattle.inbox.specs.Arrivals.{arrivals_from}
use Rattle.inbox.specs.Merging.{inboxes_of}
use Rattle.inbox.proofs.arrivals.arrivals_in_all.Goals as goal

pub loop-part-preserved : goal.loop-part-preserved
loop-part-preserved c =
    let ids = c.args.ids.now in
    let part = c.part-item.result in
    let before = take c.loop-part.part-index ids in
    let made : Vec ℕ Global → List Arrival = λ part. arrivals_from 0 (inboxes_of c.args.letters.now part.items) in
    let own : vec_items c.in_ok-arrivals.arrivals ≡ made part = rw c.deref.ensures.value at c.in_ok-arrivals.ensures in
    let grown = take_more ids c.loop-part.part-index part c.loop-part-test.true ∙ ap (λ part. before ++ part ∷ []) (sym c.part-item.is) in
    record {
      made =
          ap (map vec_items) c.push_reserved.ensures.items ∙ map_push vec_items c.loop-part.parts.items c.in_ok-arrivals.arrivals
          ∙ (λ i. c.loop-part.invariant.made i ++ own i ∷ [])
          ∙ sym (ap (map made) grown ∙ map-append made before (part ∷ []));
      len = omega (arith, c.push_reserved.ensures.len, c.loop-part.invariant.len);
      room = c.push_reserved.ensures.capacity ∙ c.loop-part.invariant.room;
    }

pub push_reserved-requires : goal.push_reserved-requires
push_reserved-requires c = omega (arith, c.loop-part.invariant.len, c.loop-part.invariant.room, c.loop-part-test.true)

pub returns : goal.returns
returns c = c.loop-part.invariant.made ∙ ap (map (λ (part : Vec ℕ Global). arrivals_from 0 (inboxes_of c.args.letters.now part.items))) (take_all c.loop-part.part-index c.args.ids.now c.loop-part-test.false)
