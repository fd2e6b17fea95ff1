use Rattle.std.proofs.Common.{◌∙◌, ap, sym, subst, arith, map}
use Rattle.std.proofs.lemmas.Result.{IfOk-weaker}
use Rattle.std.proofs.lemmas.Simd.{map-map}
use Rattle.graph.specs.Entry.{id_at, ids}
use Rattle.superstep.specs.Job.{IsGraphOf}
use Rattle.job_state.specs.declared.settings.Settings.{Settings}
use Rattle.plain_run.specs.inside.OneMachine.{entry_now, is_over}
use Rattle.superstep.proofs.Graphs.{some_parts}
use Rattle.plain_run.proofs.PlainSteps.{begun, next_at, not_over, run_ended}
use Rattle.plain_run.proofs.machine.run_over.Goals as goal

pub loop-plain-init : goal.loop-plain-init
loop-plain-init c =
    let is = c.in_ok-plain.ensures in
    record {
      entries = is.entries;
      at = λ outcomes are. begun outcomes (map entry_now c.args.vertices.now) c.in_ok-plain.plain is;
      within = omega (arith, is.superstep);
      fits = c.in_ok-scratch.ensures ∙ c.verified.ensures;
      limit = ap (λ (settings : Settings). settings.limit) c.settings-limit.ensures.settings;
    }

pub run_superstep-requires-clause-graph : goal.run_superstep-requires-clause-graph
run_superstep-requires-clause-graph c =
    subst (λ (entries : _). IsGraphOf c.args.job.now entries) (sym c.loop-plain.invariant.entries) c.requires

pub run_superstep-requires-clause-ids : goal.run_superstep-requires-clause-ids
run_superstep-requires-clause-ids c =
    c.deref.ensures.value ∙ c.in_ok-ids.ensures ∙ sym (map-map id_at entry_now c.args.vertices.now) ∙ ap ids (sym c.loop-plain.invariant.entries)

pub run_superstep-requires-clause-early : goal.run_superstep-requires-clause-early
run_superstep-requires-clause-early c =
    let due = not_over c.settings-limit.result.limit c.loop-plain.plain (sym c.is_over.ensures ∙ c.loop-plain-test.true) in
    omega (arith, due.1, c.loop-plain.invariant.limit)

pub loop-plain-preserved : goal.loop-plain-preserved
loop-plain-preserved c =
    let kept = c.loop-plain.invariant in
    let next = c.in_ok-run_superstep.ensures.next in
    let due = not_over c.settings-limit.result.limit c.loop-plain.plain (sym c.is_over.ensures ∙ c.loop-plain-test.true) in
    record {
      entries = next.entries ∙ kept.entries;
      at = λ outcomes are. next_at outcomes _ c.loop-plain.plain c.run_superstep.new.self (kept.at outcomes are) (next.next outcomes are) next.superstep due.0;
      within = omega (arith, due.1, kept.limit, next.superstep);
      fits = c.in_ok-run_superstep.ensures.kept ∙ kept.fits;
      limit = kept.limit;
    }

pub loop-plain-smaller : goal.loop-plain-smaller
loop-plain-smaller c =
    let due = not_over c.settings-limit.result.limit c.loop-plain.plain (sym c.is_over.ensures ∙ c.loop-plain-test.true) in
    omega (arith, due.1, c.in_ok-run_superstep.ensures.next.superstep)

pub returns-clause-end : goal.returns-clause-end
returns-clause-end c =
    IfOk-weaker c.tell.result _ _ (λ ended is.
    let kept = c.loop-plain.invariant in
    run_ended c.args.job.now (map entry_now c.args.vertices.now) c.loop-plain.plain ended (some_parts c.args.job.now.settings c.settings-limit.ensures.good) c.requires kept.at kept.within
    (ap (λ n. is_over n c.loop-plain.plain) (sym kept.limit) ∙ sym c.is_over.ensures ∙ c.loop-plain-test.false) is) c.tell.ensures

pub returns-clause-since : goal.returns-clause-since
returns-clause-since c = IfOk-weaker c.tell.result _ _ (λ ended is. is.since) c.tell.ensures
