use Rattle.std.proofs.Common.{pos, ◌≡◌, ◌-◌, true, false, ap, drop, get_or, rules, arith, subst, ◌∙◌}
use Rattle.std.proofs.lemmas.List.{take_rest, get_or_default}
use Rattle.std.proofs.lemmas.List.Sums.{prefix_len_is}
use Rattle.std.specs.List.{prefix_len}
use Rattle.std.specs.List.Sorted.{IsPartitionPoint}
use Rattle.std.specs.Prelude.{int_lt}
use Rattle.inbox.specs.declared.letters.Letter.{Letter}
use Rattle.inbox.proofs.SideBySide.{below_partitioned, no_letter, prefix_point, point_after, partitioned_back}
use Rattle.inbox.proofs.all_parts.start_from.Goals as goal

pub returns-then-near-eq0-clause-found : goal.returns-then-near-eq0-clause-found
returns-then-near-eq0-clause-found c = λ up. c.first_from.ensures.found (below_partitioned (pos c.args.id) c.args.letters.now up)

pub returns-then-ahead-lt-FEW-clause-found : goal.returns-then-ahead-lt-FEW-clause-found
returns-then-ahead-lt-FEW-clause-found c = λ up.
    let letters = c.args.letters.now in
    let near = c.args.near in
    let rest = drop near letters in
    let before : int_lt (get_or letters (near - 1) no_letter).to (pos c.args.id) ≡ true = search (rules, c.goes_below.ensures, c.if-not-goes_below.false) in
    let test = λ (letter : Letter). int_lt letter.to (pos c.args.id) in
    let part = below_partitioned (pos c.args.id) letters up in
    let few = rw (take_rest letters near) at c.few_below-ahead.ensures in
    let count : prefix_len test rest ≡ c.few_below-ahead.result = prefix_len_is test rest c.few_below-ahead.result no_letter few.bound (λ k early. few.below k no_letter early) (few.next no_letter c.if-ahead-lt-FEW.true) in
    let found = subst (λ k. IsPartitionPoint (λ x. test x ≡ true) (λ x. test x ≡ false) rest k) count (prefix_point test rest (partitioned_back test letters near part)) in
    point_after test letters near c.few_below-ahead.result (omega (arith, c.if-near-letters.false)) part (λ d. ap (λ (letter : Letter). int_lt letter.to (pos c.args.id)) (get_or_default letters (near - 1) d no_letter (omega (arith, c.if-near-letters.false, c.if-near-eq0.false))) ∙ before) (omega (arith, c.if-near-eq0.false)) found few.bound

pub returns-clause-found : goal.returns-clause-found
returns-clause-found c = λ up.
    let letters = c.args.letters.now in
    let near = c.args.near in
    let before : int_lt (get_or letters (near - 1) no_letter).to (pos c.args.id) ≡ true = search (rules, c.goes_below.ensures, c.if-not-goes_below.false) in
    let test = λ (letter : Letter). int_lt letter.to (pos c.args.id) in
    let part = below_partitioned (pos c.args.id) letters up in
    let later = rw (take_rest letters near) at c.first_from-2.ensures in
    let found = later.found (partitioned_back test letters near part) in
    point_after test letters near c.first_from-2.result (omega (arith, c.if-near-letters.false)) part (λ d. ap (λ (letter : Letter). int_lt letter.to (pos c.args.id)) (get_or_default letters (near - 1) d no_letter (omega (arith, c.if-near-letters.false, c.if-near-eq0.false))) ∙ before) (omega (arith, c.if-near-eq0.false)) found later.bound
