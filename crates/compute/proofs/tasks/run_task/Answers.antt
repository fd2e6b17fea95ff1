use Rattle.std.proofs.Common.{◌≡◌, ℕ, ◌*◌, ◌<◌, true, List, All, length, map, Fits, w64, ap, sym, ◌∙◌, subst, arith}
use Rattle.wasm_ast.specs.declared.module.Module.{Module}
use Rattle.graph.specs.Entry.{Entry, entries_of, ids}
use Rattle.job_state.specs.declared.state.VertexState.{VertexState}
use Rattle.superstep.specs.declared.task.Shared.{Shared}
use Rattle.superstep.specs.Job.{HasGraph, IsCount, Work}
use Rattle.job_state.specs.State.{state_id}
use Rattle.job_state.specs.Stamps.{DoneStamp}
use Rattle.superstep.specs.Tasks.{AreAggregatesAt, AreUnitsAt, FitsPart, IsDone, IsPartAt}
use Rattle.job_state.specs.inside.DueRows.{due_rows}
use Rattle.superstep.specs.inside.Called.{HasProperIds, Tells}
use Rattle.compute.specs.inside.PartOutput.{CallsPart}
use Rattle.compute.proofs.PartLeft.{below_here, done_here, entries_here, fits_below, fits_ids, proper_here, units_here, whole_slice}
use Rattle.compute.proofs.tasks.run_task.Goals as goal

number_fits : (part : ℕ) → part < 4294967296 → Fits w64 part
number_fits part few = omega arith

offset_fits : (part : ℕ) → part < 4294967296 → Fits w64 (part * 24)
offset_fits part few = omega arith

pub overflow_cast-entries : goal.overflow_cast-entries
overflow_cast-entries g c = number_fits c.part-part.result c.part-part.type_inv

pub offset_bounds-parts-part : goal.offset_bounds-parts-part
offset_bounds-parts-part g c = offset_fits c.part-part.result c.part-part.type_inv

pub bounds-parts-part : goal.bounds-parts-part
bounds-parts-part g c =
    let work = g.J.Origin.work in
    let part = c.part-part.result in
    let vertices = c.into_parts-states.result.0 in
    let fits : FitsPart work part vertices = subst (λ (n : ℕ). FitsPart work n vertices) (sym c.part-part.ensures) c.into_parts-states.ensures.fits in
    below_here work c.args.job.now c.parts.result.now part vertices c.requires.job c.parts.ensures.parts fits

pub run_part-ran-requires-clause-fits : goal.run_part-ran-requires-clause-fits
run_part-ran-requires-clause-fits g c = c.requires.fits ∙ sym c.verified.ensures

pub run_part-ran-requires-clause-same : goal.run_part-ran-requires-clause-same
run_part-ran-requires-clause-same g c =
    let work = g.J.Origin.work in
    let part = c.part-part.result in
    let vertices = c.into_parts-states.result.0 in
    let fits : FitsPart work part vertices = subst (λ (n : ℕ). FitsPart work n vertices) (sym c.part-part.ensures) c.into_parts-states.ensures.fits in
    ap ids
    (entries_here work c.args.job.now c.parts.result.now part c.index-parts-part.result c.deref.result.now vertices c.requires.job c.parts.ensures.parts
    fits c.index-parts-part.is c.deref.ensures.value)
    ∙ fits_ids work part vertices fits
    ∙ ap (λ (states : List VertexState). map state_id states) (sym (c.deref_mut.ensures.value ∙ c.into_parts-vertices.ensures.vertices))

pub run_part-ran-requires-clause-due : goal.run_part-ran-requires-clause-due
run_part-ran-requires-clause-due g c =
    c.deref-2.ensures.value ∙ c.into_parts-vertices.ensures.due ∙ ap (due_rows 0) (sym (c.deref_mut.ensures.value ∙ c.into_parts-vertices.ensures.vertices))

pub run_part-ran-requires-clause-proper : goal.run_part-ran-requires-clause-proper
run_part-ran-requires-clause-proper g c =
    let work = g.J.Origin.work in
    let part = c.part-part.result in
    let vertices = c.into_parts-states.result.0 in
    let fits : FitsPart work part vertices = subst (λ (n : ℕ). FitsPart work n vertices) (sym c.part-part.ensures) c.into_parts-states.ensures.fits in
    let graph = subst (λ (w : Work). HasGraph w) (sym c.requires.job) c.parts.ensures.graph in
    subst (λ (es : List Entry). All HasProperIds es)
    (sym
    (entries_here work c.args.job.now c.parts.result.now part c.index-parts-part.result c.deref.result.now vertices c.requires.job c.parts.ensures.parts
    fits c.index-parts-part.is c.deref.ensures.value))
    (proper_here work part graph (fits_below work part vertices fits))

pub of_due-vertices-requires : goal.of_due-vertices-requires
of_due-vertices-requires g c =
    let whole =
    whole_slice c.into_parts-vertices.result.0.items c.run_part-ran.new.vertices c.into_parts-vertices.result.0.len (c.run_part-ran.auto.vertices ∙ ap length c.deref_mut.ensures.value)
    (omega (arith, c.into_parts-vertices.result.0.ok.0)) in
    c.in-Ok.ensures.active ∙ ap (due_rows 0) (sym whole)

pub of-requires : goal.of-requires
of-requires g c =
    let work = g.J.Origin.work in
    let honest = g.J.Origin.honest in
    let job = c.args.job.now in
    let part = c.part-part.result in
    let before = c.into_parts-states.result.0 in
    let after = c.run_part-ran.new.vertices in
    let left = c.in-Ok.left in
    let handed = c.into_parts-states.ensures in
    let shared : Shared = record {
      verified = c.verified.result;
      superstep = c.superstep-superstep.result;
      count = c.count.result;
      aggregated = c.into_parts-states.result.1;
    } in
    let fits : FitsPart work part before = subst (λ (n : ℕ). FitsPart work n before) (sym c.part-part.ensures) handed.fits in
    let seen =
    entries_here work job c.parts.result.now part c.index-parts-part.result c.deref.result.now before c.requires.job c.parts.ensures.parts
    fits c.index-parts-part.is c.deref.ensures.value in
    let calls =
    subst (λ (es : List Entry). CallsPart shared es before after left) seen
    (subst (λ (states : List VertexState). CallsPart shared (entries_of c.deref.result.now) states after left) (c.deref_mut.ensures.value ∙ c.into_parts-vertices.ensures.vertices) c.in-Ok.ensures.calls) in
    let known : shared.verified.now ≡ work.«module» = c.verified.ensures ∙ ap (λ (w : Work). w.«module») (sym c.requires.job) in
    let counted = subst (λ (w : Work). IsCount w shared.count) (sym c.requires.job) c.count.ensures in
    let trusted : honest c.epoch-epoch.result ≡ true → honest c.args.task.epoch ≡ true = λ sure. subst (λ (n : ℕ). honest n ≡ true) c.epoch-epoch.ensures sure in
    let done =
    done_here work honest c.epoch-epoch.result part shared before after left fits calls
    (λ sure. subst (λ (n : ℕ). IsPartAt work n part before) (sym c.superstep-superstep.ensures)
    (subst (λ (n : ℕ). IsPartAt work c.args.task.superstep n before) (sym c.part-part.ensures) (handed.at (trusted sure))))
    (λ sure. subst (λ (n : ℕ). AreAggregatesAt work n shared.aggregated) (sym c.superstep-superstep.ensures) (handed.aggregates (trusted sure)))
    counted
    (λ outcomes are. subst (λ (m : Module). Tells m outcomes) (sym known) (c.calls_are_a_function.ensures.told work.«module» outcomes are)) in
    let whole = whole_slice c.into_parts-vertices.result.0.items after c.into_parts-vertices.result.0.len (c.run_part-ran.auto.vertices ∙ ap length c.deref_mut.ensures.value) (omega (arith, c.into_parts-vertices.result.0.ok.0)) in
    subst (λ (states : List VertexState). IsDone work honest (record { epoch = c.epoch-epoch.result; superstep = shared.superstep; part = part; units = left.units }) states left.letters left.aggregators)
    (sym (c.of_due-vertices.ensures ∙ whole)) done

pub returns-clause-units : goal.returns-clause-units
returns-clause-units g c = λ sure.
    let work = g.J.Origin.work in
    let honest = g.J.Origin.honest in
    let stamp : DoneStamp = record { epoch = c.epoch-epoch.result; superstep = c.superstep-superstep.result; part = c.part-part.result; units = c.in-Ok.left.units } in
    let told : AreUnitsAt work stamp.superstep stamp.part stamp.units =
    units_here work honest stamp _ _ _ (of-requires g c.before.before) (subst (λ (n : ℕ). honest n ≡ true) (sym c.epoch-epoch.ensures) sure) in
    subst (λ (n : ℕ). AreUnitsAt work c.args.task.superstep c.args.task.part n) (sym c.of.ensures.units)
    (subst (λ (n : ℕ). AreUnitsAt work n c.args.task.part stamp.units) c.superstep-superstep.ensures
    (subst (λ (n : ℕ). AreUnitsAt work stamp.superstep n stamp.units) c.part-part.ensures told))
