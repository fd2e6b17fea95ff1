use Rattle.std.proofs.Common.{ap, sym, ◌∙◌, map, vec_items}
use Rattle.std.proofs.lemmas.Iterator.Adapters.{YieldsList-from_vec}
use Rattle.std.proofs.lemmas.Iterator.Consumers.{YieldsList-end}
use Rattle.std.proofs.lemmas.List.{map-id}
use Rattle.graph.specs.Entry.{entries_of, parts_of}
use Rattle.graph.proofs.Splitting.{split_is, split_whole}
use Rattle.graph.proofs.parts.split.Goals as goal

pub returns-clause-parts : goal.returns-clause-parts
returns-clause-parts c =
    let cut = c.in_ok-vertices-items.vertices-items in
    let gives = c.into_iter-vertices-iterator.ensures.into_iter_gives in
    let parts = YieldsList-from_vec cut.items gives.0 (gives.1 ∙ cut.ok.0) in
    let all = YieldsList-end parts c.loop-vertices.yielded c.loop-vertices.vertices-iterator c.loop-vertices.yielded_by _ c.next.new.self c.in-None.is c.next.ensures.steps in
    split_is c.args.parts c.loop-vertices.split.items cut.items c.into_vertices.result.items
    (c.loop-vertices.invariant ∙ ap (λ yielded. map entries_of (map vec_items yielded)) (sym (map-id c.loop-vertices.yielded) ∙ all.0))
    c.in_ok-vertices-items.ensures
    ∙ ap (parts_of c.args.parts) c.into_vertices.ensures.same

pub returns-clause-whole : goal.returns-clause-whole
returns-clause-whole c = split_whole c.args.parts c.loop-vertices.split.items c.args.graph c.requires (returns-clause-parts c)
