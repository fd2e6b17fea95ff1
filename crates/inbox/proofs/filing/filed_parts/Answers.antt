use Rattle.std.proofs.Common.{[], ◌∷◌, ◌++◌, take, ap, sym, ◌∙◌, arith}
use Rattle.rayon.proofs.ListFacts.{AllZip-append}
use Rattle.std.proofs.lemmas.List.{take_all, take_more}
use Rattle.inbox.specs.inside.Filing.{AreInBlocks}
use Rattle.inbox.specs.inside.Mail.{letters_in}
use Rattle.inbox.proofs.filing.filed_parts.Goals as goal

pub loop-ids-preserved : goal.loop-ids-preserved
loop-ids-preserved c =
    let parts = c.args.parts.now in
    let ids = c.ids-item.result in
    let before = take c.loop-ids.ids-index parts in
    let more = AllZip-append (AreInBlocks (letters_in c.args.mail)) before (ids ∷ []) c.loop-ids.filed.items (c.in-Some.part ∷ []) c.loop-ids.invariant.filed (rw c.in-Some.is at c.in_ok-part.ensures, tt) in
    let grown = take_more parts c.loop-ids.ids-index ids c.loop-ids-test.true ∙ ap (λ ids. before ++ ids ∷ []) (sym c.ids-item.is) in
    record {
      filed = rw (grown, c.push_reserved.ensures.items) more;
      len = omega (arith, c.push_reserved.ensures.len, c.loop-ids.invariant.len);
      room = c.push_reserved.ensures.capacity ∙ c.loop-ids.invariant.room;
    }

pub push_reserved-requires : goal.push_reserved-requires
push_reserved-requires c = omega (arith, c.loop-ids.invariant.len, c.loop-ids.invariant.room, c.loop-ids-test.true)

pub returns : goal.returns
returns c = rw (take_all c.loop-ids.ids-index c.args.parts.now c.loop-ids-test.false) at c.loop-ids.invariant.filed
