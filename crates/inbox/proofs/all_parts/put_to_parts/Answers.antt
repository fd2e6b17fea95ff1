use Rattle.std.proofs.Common.{[], ◌∷◌, ◌++◌, take, ap, sym, ◌∙◌, arith}
use Rattle.rayon.proofs.ListFacts.{AllZip-append}
use Rattle.std.proofs.lemmas.List.{take_all, take_more}
use Rattle.inbox.specs.inside.Shares.{ArePutIn}
use Rattle.inbox.proofs.all_parts.put_to_parts.Goals as goal

pub loop-ids-preserved : goal.loop-ids-preserved
loop-ids-preserved g c =
    let letters = c.args.letters.now in
    let parts = c.args.parts.now in
    let ids = c.ids-item.result in
    let before = take c.loop-ids.ids-index parts in
    let more = AllZip-append (ArePutIn letters) before (ids ∷ []) c.loop-ids.all.items (c.in_ok-delivered.delivered ∷ []) c.loop-ids.invariant.put (c.in_ok-delivered.ensures, tt) in
    let grown = take_more parts c.loop-ids.ids-index ids c.loop-ids-test.true ∙ ap (λ ids. before ++ ids ∷ []) (sym c.ids-item.is) in
    record {
      put = rw (grown, c.push_reserved.ensures.items) more;
      len = omega (arith, c.push_reserved.ensures.len, c.loop-ids.invariant.len);
      room = c.push_reserved.ensures.capacity ∙ c.loop-ids.invariant.room;
    }

pub push_reserved-requires : goal.push_reserved-requires
push_reserved-requires g c = omega (arith, c.loop-ids.invariant.len, c.loop-ids.invariant.room, c.loop-ids-test.true)

pub returns : goal.returns
returns g c = rw (take_all c.loop-ids.ids-index c.args.parts.now c.loop-ids-test.false) at c.loop-ids.invariant.put
