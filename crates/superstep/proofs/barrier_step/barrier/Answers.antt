use Rattle.std.proofs.Common.{ℤ, List, map, refl, ap, ◌∙◌}
use Rattle.job_state.specs.State.{Standing, state_id}
use Rattle.superstep.specs.Superstep.{messages_to}
use Rattle.superstep.specs.Tasks.{outcomes_in}
use Rattle.superstep.specs.inside.Barrier.{left_ids}
use Rattle.superstep.proofs.Graphs.{ids_rise}
use Rattle.superstep.proofs.NextState.{IsMade, IsReady, all, all_left_empty, lefts, next_has_ids, next_is_at, next_is_kept, spreads}
use Rattle.superstep.proofs.barrier_step.barrier.Goals as goal

pub handed_out-requires-clause-spread : goal.handed_out-requires-clause-spread
handed_out-requires-clause-spread g c κs within =
    let ready : IsReady g.J.Origin.work c.args.job.now g.J.Origin.honest c.args.totals c.args.dones.items c.in_ok-vertices.field-0 = record {
      job = c.requires.job;
      good = c.settings.ensures.good;
      graph = c.settings.ensures.graph;
      row = c.requires.row;
      sums = c.requires.totals;
      parts = c.in_ok-vertices.ensures;
    } in
    (lefts _ _ _ _ _ _ ready, all _ _ _ _ _ _ ready, spreads _ _ _ _ _ _ ready _ c.ids.ensures, all_left_empty _ _ _ _ _ _ ready)

pub handed_out-requires-clause-rising : goal.handed_out-requires-clause-rising
handed_out-requires-clause-rising g c κs within =
    ids_rise c.args.job.now c.settings.ensures.graph.0 c.ids.result.now c.settings.ensures.graph.1 c.ids.ensures

module _ (g : _) (c : goal.In_ok-totals g) where
  abbrev ready : IsReady g.J.Origin.work c.args.job.now g.J.Origin.honest c.args.totals c.args.dones.items c.in_ok-vertices.field-0
  ready = record {
    job = c.requires.job;
    good = c.settings.ensures.good;
    graph = c.settings.ensures.graph;
    row = c.requires.row;
    sums = c.requires.totals;
    parts = c.in_ok-vertices.ensures;
  }

  -- the inboxes of each part's vertices
  abbrev found : List (List (List ℤ))
  found = map (λ left. map (messages_to (outcomes_in (all _ _ _ _ _ _ ready))) (left_ids left)) (lefts _ _ _ _ _ _ ready)

  made : IsMade g.J.Origin.work c.args.job.now g.J.Origin.honest c.args.totals c.args.dones.items c.in_ok-vertices.field-0 ready
      found c.in_ok-parts.dropped c.in_ok-parts.parts.items c.in_ok-totals.totals
  made =
      record {
        inboxes = refl;
        dropped = c.in_ok-parts.ensures.dropped (lefts _ _ _ _ _ _ ready) (all _ _ _ _ _ _ ready) (spreads _ _ _ _ _ _ ready _ c.ids.ensures);
        fills = λ long. c.in_ok-parts.ensures.parts (lefts _ _ _ _ _ _ ready) (all _ _ _ _ _ _ ready) (spreads _ _ _ _ _ _ ready _ c.ids.ensures)
            (all_left_empty _ _ _ _ _ _ ready);
        follows = c.in_ok-totals.ensures;
      }

pub of_parts-requires : goal.of_parts-requires
of_parts-requires g c = next_is_kept _ _ _ _ _ _ (ready g c) _ _ _ _ (made g c)

pub returns-clause-next : goal.returns-clause-next
returns-clause-next g c = λ sure at meaning.
    let before = c.before in
    rw c.of_parts.ensures (next_is_at _ _ _ _ _ _ (ready g before) _ _ _ _ (made g before) sure meaning (at meaning))

pub returns-clause-ids : goal.returns-clause-ids
returns-clause-ids g c = λ other is.
    let before = c.before in
    ap (λ (state : Standing). map state_id state.vertices) c.of_parts.ensures ∙ next_has_ids _ _ _ _ _ _ (ready g before) _ _ _ _ (made g before) other is
