use Rattle.std.proofs.Common.{◌≡◌, refl}
use Rattle.std.specs.Prelude.{true}
use Rattle.graph.specs.Entry.{entries_of}
use Rattle.graph.specs.Said.{lines_of}
use Rattle.graph.proofs.Texts.{are_sorted, sorted_from, twice_none}
use Rattle.graph.proofs.graph.sort_collected.Goals as goal

pub returns-then-not-are_rising-clause-only : goal.returns-then-not-are_rising-clause-only
returns-then-not-are_rising-clause-only c =
    let says = rw c.in-Ok.is at c.requires.says in
    let sorted = sorted_from (lines_of c.args.text.now) c.in-Ok.collected c.sort_by_id.new.elements.items says c.sort_by_id.ensures.permutation c.sort_by_id.ensures.sorted in
    let tells = rw c.deref.ensures.value at c.are_rising.ensures in
    λ told. twice_none c.args.text.now (entries_of c.sort_by_id.new.elements.items) sorted (λ rise. let yes : c.are_rising.result ≡ true = tells.1 rise in absurd (cc))

pub returns-clause-found : goal.returns-clause-found
returns-clause-found c =
    let says = rw c.in-Ok.is at c.requires.says in
    let tells = rw c.deref.ensures.value at c.are_rising.ensures in
    are_sorted (lines_of c.args.text.now) c.in-Ok.collected _ says c.sort_by_id.ensures.permutation (tells.0 c.if-not-are_rising.false) refl
