use Rattle.std.proofs.Common.{sym, ap, ◌∙◌}
use Rattle.std.proofs.lemmas.List.{take_all}
use Rattle.std.specs.List.{flat_map}
use Rattle.inbox.specs.inside.Streams.{left_in}
use Rattle.inbox.proofs.Streaming.{none_more}
use Rattle.inbox.proofs.streams.Streams.are_taken.Goals as goal

pub loop-rest-preserved : goal.loop-rest-preserved
loop-rest-preserved c =
    let same = c.deref-rest-items.ensures.value in
    none_more left_in c.args.self.now.rests.items c.loop-rest.rest-index _ (rw same at c.loop-rest-test.true) c.loop-rest.invariant
    (rw same at (c.is_empty.ensures c.if-not-is_empty.false))

pub returns : goal.returns
returns c = λ yes.
    ap (flat_map left_in) (sym (take_all c.loop-rest.rest-index c.args.self.now.rests.items (rw c.deref-rest-items.ensures.value at c.loop-rest-test.false))) ∙ c.loop-rest.invariant
