use Rattle.leb.specs.Spelling.{u32_spelling}
use Rattle.wasm_items.proofs.CanonicalNumbers.{count_goes_on, count_ends, count_is_full}
use Rattle.wasm_items.proofs.encoder.parts.write_count.Goals as goal

pub returns-then-rest-lt128 : goal.returns-then-rest-lt128
unfolding u32_spelling
returns-then-rest-lt128 c =
    count_ends _ _ c.loop.counter c.loop.rest c.loop.invariant _ c.loop-test.true c.if-rest-lt128.true c.in_ok-push.ensures.items

pub loop-preserved : goal.loop-preserved
loop-preserved c =
    count_goes_on _ _ c.loop.counter c.loop.rest c.loop.invariant _ c.loop-test.true c.if-rest-lt128.false c.in_ok-push-2.ensures.items

pub returns : goal.returns
unfolding u32_spelling
returns c = count_is_full _ _ c.loop.counter c.loop.rest c.loop.invariant c.loop-test.false
