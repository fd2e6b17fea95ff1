use Rattle.std.proofs.Common.{◌≡◌, [], ◌∷◌, ◌++◌, List, get_or, map, take, refl, ap, sym, subst, ◌∙◌}
use Rattle.std.proofs.lemmas.List.{map-append, map_more, take_all}
use Rattle.graph.specs.Entry.{Entry}
use Rattle.graph.specs.Parts.{part_entries}
use Rattle.graph.specs.declared.parts.Part.{Part}
use Rattle.superstep.specs.Job.{IsGraphOf}
use Rattle.job_state.specs.State.{Standing, in_order, state_id}
use Rattle.superstep.specs.State.{ShowsAt}
use Rattle.superstep.specs.inside.Rows.{first_vertices}
use Rattle.superstep.proofs.Graphs.{lie_in_parts, some_parts}
use Rattle.superstep.proofs.Firsts.{IsFirst, first_ids, first_is_state, first_shows, firsts_in_order, parts_ids}
use Rattle.superstep.proofs.states.first_state.Goals as goal

-- the vertices of each part
parts : (c : goal.After-aggregator_starts) → c.loop-part.parts.items ≡ map first_vertices c.args.job.now.parts
parts c =
    c.loop-part.invariant
    ∙ ap (λ (parts : List Part). map first_vertices (map part_entries parts)) (take_all _ _ c.loop-part-test.false)
    ∙ ap (map first_vertices) c.parts-part-items.ensures.parts

made : (c : goal.After-aggregator_starts) (graph : List Entry) → IsGraphOf c.args.job.now graph
    → IsFirst graph (record { superstep = 0; since = 0; by_superstep = c.new.result.items; units = 0; dropped = 0; aggregates = c.aggregator_starts.result; vertices = in_order c.loop-part.parts.items })
made c graph is = record {
  superstep = refl;
  since = refl;
  by_superstep = c.new.ensures.items;
  units = refl;
  dropped = refl;
  aggregates = c.aggregator_starts.ensures;
  vertices = ap in_order (parts c) ∙ firsts_in_order c.args.job.now graph (some_parts c.args.job.now.settings c.parts-part-items.ensures.good) is;
}

pub loop-part-preserved : goal.loop-part-preserved
loop-part-preserved c =
    let parts = c.parts-part-items.result.now in
    let index = c.loop-part.part-index in
    let part = c.part-item.result in
    let before = map part_entries (take index parts) in
    let here = part_entries (get_or parts index part) in
    let own : c.in_ok-states.states ≡ first_vertices here =
    c.in_ok-states.ensures ∙ c.in_ok-vertices.ensures ∙ ap (λ (part : Part). first_vertices (part_entries part)) c.part-item.is in
    c.in_ok-push.ensures.items
    ∙ (λ i. c.loop-part.invariant i ++ own i ∷ [])
    ∙ sym (map-append first_vertices before (here ∷ []))
    ∙ ap (map first_vertices) (sym (map_more part_entries parts index part c.loop-part-test.true))

pub of_parts-requires : goal.of_parts-requires
of_parts-requires c =
    let graph = c.parts-part-items.ensures.graph in
    record {
      state = first_is_state c.args.job.now graph.0 _ graph.1 (made c graph.0 graph.1);
      parts = lie_in_parts c.args.job.now graph.0 _ graph.1 (ap (map (map state_id)) (parts c) ∙ parts_ids c.args.job.now.parts);
    }

pub returns-clause-first : goal.returns-clause-first
returns-clause-first c = λ meaning.
    subst (λ (state : Standing). ShowsAt meaning.outcomes meaning.graph 0 state) (sym c.of_parts.ensures)
    (first_shows meaning.outcomes meaning.graph _ (made c.before meaning.graph meaning.is_graph))

pub returns-clause-superstep : goal.returns-clause-superstep
returns-clause-superstep c = ap (λ (state : Standing). state.superstep) c.of_parts.ensures

pub returns-clause-since : goal.returns-clause-since
returns-clause-since c = ap (λ (state : Standing). state.since) c.of_parts.ensures

pub returns-clause-ids : goal.returns-clause-ids
returns-clause-ids c = λ graph is.
    ap (λ (state : Standing). map state_id state.vertices) c.of_parts.ensures ∙ ap (map state_id) (made c.before graph is).vertices ∙ first_ids graph
