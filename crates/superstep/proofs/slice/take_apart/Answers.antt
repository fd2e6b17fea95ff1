use Rattle.std.proofs.Common.{◌≡◌, ◌<◌, ℕ, List, [], length, get_or, ap, sym, ◌∙◌, subst, arith, refl}
use Rattle.std.proofs.lemmas.List.FromFn.{length-map-range_with_len}
use Rattle.graph.specs.Partition.{part_by, parts_by}
use Rattle.graph.specs.inside.Partitioned.{part_at}
use Rattle.superstep.specs.Job.{IsGraphOf, Work}
use Rattle.job_state.specs.State.{state_id}
use Rattle.superstep.specs.Tasks.{stamps_of}
use Rattle.job_state.specs.declared.state.VertexState.{VertexState}
use Rattle.superstep.proofs.Graphs.{few_parts, some_parts}
use Rattle.superstep.proofs.PartStates.{part_fits, part_stands}
use Rattle.superstep.proofs.Runs.{sums}
use Rattle.superstep.proofs.slice.take_apart.Goals as goal

-- a list is cut into as many parts as it is to be
many : (cut : List (List VertexState)) (count : ℕ) (vertices : List VertexState) → cut ≡ parts_by state_id count vertices → length cut ≡ count
many cut count vertices is = ap length is ∙ length-map-range_with_len (part_by state_id count vertices) 0 count

pub into_parts-requires : goal.into_parts-requires
into_parts-requires g c = rw c.settings.ensures.settings (some_parts c.args.job.now.settings c.settings.ensures.good)

pub label-requires-clause-few : goal.label-requires-clause-few
label-requires-clause-few g c =
    let long : length c.in_ok-totals.parts.items ≡ c.settings.result.parts = many c.in_ok-totals.parts.items c.settings.result.parts c.args.state.vertices c.in_ok-totals.ensures.parts in
    rw (long, c.settings.ensures.settings) (few_parts c.args.job.now.settings c.settings.ensures.good)

pub label-requires-clause-parts : goal.label-requires-clause-parts
label-requires-clause-parts g c = λ part below.
    let state = c.args.state in
    let own = g.J.Origin.work in
    let graph = c.settings.ensures.graph in
    let is = subst (λ (work : Work). IsGraphOf work graph.0) (sym c.requires.job) graph.1 in
    let parts : c.settings.result.parts ≡ own.settings.parts =
    ap (λ settings. settings.parts) c.settings.ensures.settings ∙ ap (λ (work : Work). work.settings.parts) (sym c.requires.job) in
    let long : length c.in_ok-totals.parts.items ≡ c.settings.result.parts = many c.in_ok-totals.parts.items c.settings.result.parts state.vertices c.in_ok-totals.ensures.parts in
    let small : part < own.settings.parts = omega (arith, below, long, parts) in
    let here : get_or c.in_ok-totals.parts.items part [] ≡ part_by state_id own.settings.parts state.vertices part =
    ap (λ xs. get_or xs part []) c.in_ok-totals.ensures.parts
    ∙ part_at state_id c.settings.result.parts state.vertices part [] (rw parts small)
    ∙ rw parts refl in
    rw (here, c.in_ok-totals.ensures.of.superstep) (record {
      fits = part_fits own graph.0 state.vertices part is (c.requires.fits graph.0 graph.1) small;
      at = λ honest. part_stands own state part (c.requires.at honest);
    })

pub returns-clause-at : goal.returns-clause-at
returns-clause-at g c = λ work is meaning. sums work meaning c.args.state c.in_ok-totals.totals c.in_ok-totals.ensures.of (is meaning)

pub returns-clause-slices : goal.returns-clause-slices
returns-clause-slices g c =
    let long = many c.in_ok-totals.parts.items c.settings.result.parts c.args.state.vertices c.in_ok-totals.ensures.parts in
    let parts = ap (λ settings. settings.parts) c.settings.ensures.settings in
    c.in_ok-slices.ensures ∙ ap (λ s. stamps_of c.args.epoch s (length c.in_ok-totals.parts.items)) c.in_ok-totals.ensures.of.superstep
    ∙ ap (stamps_of c.args.epoch c.args.state.superstep) (long ∙ parts)
