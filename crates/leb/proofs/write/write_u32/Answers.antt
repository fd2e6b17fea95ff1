use Rattle.std.proofs.Common.{ℕ, List, ◌++◌, sym, ap, ◌∙◌}
use Rattle.leb.specs.Spelling.{shortest_unsigned, u32_spelling}
use Rattle.leb.proofs.Writing.{FitsUnsigned, IsWritten-more, Continues-unsigned, shortest_unsigned-last}
use Rattle.leb.proofs.write.write_u32.Goals as goal

pub loop-rest-preserved : goal.loop-rest-preserved
loop-rest-preserved c =
    let w = c.loop-rest.invariant in
    IsWritten-more FitsUnsigned shortest_unsigned _ _ _ _ _ _ _ _ _ _ w (Continues-unsigned w.most c.loop-rest.rest w.some w.enough c.loop-rest-test.true)
    (rw c.unwrap.ensures at c.push.ensures.items) (rw c.unwrap.ensures at c.push.ensures.len) c.push.ensures.capacity

pub returns-clause-ok : goal.returns-clause-ok
unfolding u32_spelling
returns-clause-ok c =
    let w = c.loop-rest.invariant in
    (rw c.unwrap-2.ensures at c.push-2.ensures.items)
    ∙ ap (λ (xs : List ℕ). c.loop-rest.out.items ++ xs) (sym (shortest_unsigned-last w.most c.loop-rest.rest w.some c.loop-rest-test.false))
    ∙ w.completes
