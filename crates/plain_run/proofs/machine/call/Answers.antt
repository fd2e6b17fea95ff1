use Rattle.std.proofs.Common.{◌≡◌, ◌∙◌, refl, sym, arith, w64, to_z, of_z}
use Rattle.std.proofs.lemmas.Int.{ints}
use Rattle.semantics.specs.Call.{shown}
use Rattle.plain_run.specs.inside.OneMachine.{row_in}
use Rattle.plain_run.proofs.PlainCalls.{called_calls, idle_calls}
use Rattle.superstep.proofs.VertexCalls.{call_told, targets_small}
use Rattle.plain_run.proofs.machine.call.Goals as goal

pub returns-then-not-is_called-clause-calls : goal.returns-then-not-is_called-clause-calls
returns-then-not-is_called-clause-calls c = λ outcomes tells.
    idle_calls outcomes c.args.shared.now (row_in c.args.held.now) c.args.sent.now (sym c.is_called.ensures ∙ c.if-not-is_called.true)

pub run-requires-clause-ids : goal.run-requires-clause-ids
run-requires-clause-ids c = record {
  id = omega (arith, c.requires.proper.id);
  targets = targets_small c.args.held.now.vertex.now.edges.items c.deref-2.result.now c.deref-2.ensures.value c.requires.proper.targets;
}

pub returns-clause-calls : goal.returns-clause-calls
returns-clause-calls c = λ outcomes tells.
    let held = c.args.held.now in
    let shared = c.args.shared.now in
    let row = row_in held in
    let read : to_z w64 (of_z w64 held.value) ≡ held.value = omega (arith, ints) in
    let told =
    call_told shared.verified.now outcomes shared row
    (record {
      id = held.vertex.now.id;
      superstep = shared.superstep;
      count = shared.count;
      value = to_z w64 (of_z w64 held.value);
      messages = c.deref.result;
      edges = c.deref-2.result;
      aggregated = shared.aggregated;
    })
    c.in_ok-outcome.outcome tells c.in_ok-outcome.ensures.outcome
    (record {
      id = refl;
      superstep = refl;
      count = refl;
      value = read;
      messages = c.deref.ensures.value;
      edges = c.deref-2.ensures.value;
      aggregated = refl;
    })
    (sym c.is_called.ensures ∙ c.if-not-is_called.false) in
    called_calls outcomes shared row (row_in c.take.new.self) (shown c.in_ok-outcome.outcome) c.args.sent.now c.add.new.self told c.take.ensures.row c.in_ok-add.ensures
