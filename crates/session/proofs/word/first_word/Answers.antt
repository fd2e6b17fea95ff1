use Rattle.std.proofs.Common.{◌∙◌, ◌<◌, length, arith, sym}
use Rattle.std.proofs.lemmas.Grind.{common_steps}
use Rattle.session.proofs.Spaces.{one_word, split_none, split_some, word_first}
use Rattle.session.proofs.word.first_word.Goals as goal

pub returns-then-not-is_empty : goal.returns-then-not-is_empty
returns-then-not-is_empty c =
    let parts = split_some c.loop-word.rest.now c.split_once.result (c.in-Some.word, c.in-Some.others) c.split_once.ensures.cases c.in-Some.is in
    let some : 0 < length c.in-Some.word.now = grind (arith, common_steps) in
    sym c.loop-word.invariant.same ∙ word_first c.loop-word.rest.now c.in-Some.word.now c.in-Some.others.now parts.0 parts.1 some

pub returns-else-is_empty : goal.returns-else-is_empty
returns-else-is_empty c =
    let other = split_none c.loop-word.rest.now c.split_once.result c.split_once.ensures.cases c.in_default.is in
    let some : 0 < length c.loop-word.rest.now = grind (arith, common_steps) in
    sym c.loop-word.invariant.same ∙ one_word c.loop-word.rest.now other some
