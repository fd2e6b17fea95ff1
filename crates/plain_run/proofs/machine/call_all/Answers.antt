use Rattle.std.proofs.Common.{◌∙◌, ◌<◌, length, arith, refl}
use Rattle.std.proofs.lemmas.List.{length-map}
use Rattle.superstep.specs.inside.Called.{left_in}
use Rattle.plain_run.specs.inside.OneMachine.{row_in, rows_in}
use Rattle.plain_run.proofs.PlainCalls.{all_called, called_next, entries_stay, none_called_yet, proper_in}
use Rattle.plain_run.proofs.machine.call_all.Goals as goal

pub loop-index-init : goal.loop-index-init
loop-index-init c = record {
  kept = c.requires.fits;
  same = refl;
  calls = λ outcomes tells. none_called_yet (left_in outcomes c.args.shared.now) (rows_in c.args.vertices.now) _ c.new.ensures.items c.aggregator_starts.ensures refl;
}

pub call-requires-clause-proper : goal.call-requires-clause-proper
call-requires-clause-proper c =
    let inside : c.loop-index.index < length c.loop-index.vertices = omega (arith, c.loop-index-test.true, c.loop-index.auto.vertices) in
    proper_in c.loop-index.vertices c.args.vertices.now c.loop-index.index c.index-vertices-index.result c.loop-index.invariant.same c.requires.proper inside

pub loop-index-preserved : goal.loop-index-preserved
loop-index-preserved c =
    let vertices = c.loop-index.vertices in
    let i = c.loop-index.index in
    let held = c.index-vertices-index.result in
    let inside : i < length vertices = omega (arith, c.loop-index-test.true, c.loop-index.auto.vertices) in
    record {
      kept = c.in_ok-call.ensures.kept ∙ c.loop-index.invariant.kept;
      same = entries_stay vertices i held c.call.new.held c.in_ok-call.ensures.same inside ∙ c.loop-index.invariant.same;
      calls = λ outcomes tells.
          called_next (left_in outcomes c.args.shared.now) c.args.vertices.now vertices i held c.call.new.held c.loop-index.sent c.call.new.sent
          c.loop-index.auto.vertices inside (c.loop-index.invariant.calls outcomes tells) (c.in_ok-call.ensures.calls outcomes tells);
    }

pub returns-clause-calls : goal.returns-clause-calls
returns-clause-calls c = λ outcomes tells.
    all_called (left_in outcomes c.args.shared.now) (rows_in c.args.vertices.now) (rows_in c.loop-index.vertices) c.loop-index.index c.loop-index.sent
    (omega (arith, length-map c.args.vertices.now row_in, c.loop-index.auto.vertices, c.loop-index-test.false)) (c.loop-index.invariant.calls outcomes tells)
