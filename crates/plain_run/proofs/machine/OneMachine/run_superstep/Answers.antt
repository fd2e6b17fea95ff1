use Rattle.std.proofs.Common.{◌≡◌, ◌+◌, List, length, map, ap, refl, sym, subst, ◌∙◌, arith}
use Rattle.std.specs.Vec.{with_items}
use Rattle.std.proofs.lemmas.List.{with_items_is}
use Rattle.wasm_ast.specs.declared.module.Module.{Module}
use Rattle.plain_run.specs.declared.machine.Held.{Held}
use Rattle.plain_run.specs.declared.machine.OneMachine.{OneMachine}
use Rattle.superstep.specs.declared.task.Shared.{Shared}
use Rattle.superstep.specs.inside.Called.{Tells, left_in}
use Rattle.plain_run.specs.inside.OneMachine.{AreLeft, entries_in, lost_in, rows_in, with_messages}
use Rattle.plain_run.proofs.Delivering.{Message}
use Rattle.plain_run.proofs.PlainSteps.{as_many_rows, closed}
use Rattle.plain_run.proofs.machine.OneMachine.run_superstep.Goals as goal

pub returns-clause-next : goal.returns-clause-next
returns-clause-next c =
    let old = c.args.self.now in
    let called = c.call_all.new.vertices in
    let filled = c.deliver_all.new.vertices in
    let between = c.deref_mut-2.result.now in
    let sent = c.in_ok-sent.sent in
    let shared : Shared = record { verified = c.verified.result; superstep = old.superstep; count = c.count.result; aggregated = old.aggregates } in
    let first : (with_items old.vertices called).items ≡ called =
    with_items_is old.vertices called (omega (arith, c.call_all.auto.vertices, ap length c.deref_mut.ensures.value, old.vertices.ok.0)) in
    let held : between ≡ called = c.deref_mut-2.ensures.value ∙ first in
    let second : (with_items (with_items old.vertices called) filled).items ≡ filled =
    with_items_is (with_items old.vertices called) filled
    (omega (arith, c.deliver_all.auto.vertices, ap length held, c.call_all.auto.vertices, ap length c.deref_mut.ensures.value, old.vertices.ok.0)) in
    let new : OneMachine = record {
      superstep = old.superstep + 1;
      vertices = with_items (with_items old.vertices called) filled;
      aggregates = sent.aggregators;
      by_superstep = c.push.new.self;
      units = c.saturating_add-self.result;
      dropped = c.saturating_add-self-2.result;
    } in
    record {
      entries =
          ap entries_in second ∙ c.in_ok-dropped.ensures.same ∙ ap entries_in held ∙ c.in_ok-sent.ensures.same ∙ ap entries_in c.deref_mut.ensures.value;
      superstep = refl;
      next = λ outcomes are.
          let tells = subst (λ (m : Module). Tells m outcomes) (sym c.verified.ensures) (c.calls_are_a_function.ensures.told c.args.job.now.«module» outcomes are) in
          closed outcomes shared c.args.ids.now old new between sent c.from.result
          (record {
            superstep = refl;
            count = c.count.ensures (entries_in old.vertices.items) c.requires.graph ∙ as_many_rows old.vertices.items;
            aggregated = refl;
            own_ids = c.requires.ids;
            rows =
                ap rows_in second ∙ c.in_ok-dropped.ensures.rows
                ∙ ap (λ (messages : List Message). map (with_messages messages) (rows_in between)) c.deref.ensures.value;
            lost_all = c.from.ensures ∙ c.in_ok-dropped.ensures.dropped ∙ ap (λ (messages : List Message). lost_in c.args.ids.now messages) c.deref.ensures.value;
            aggregates = refl;
            by_superstep = c.in_ok-push.ensures.items;
            units = c.saturating_add-self.ensures;
            dropped = c.saturating_add-self-2.ensures;
          })
          (subst (λ (vertices : List Held). AreLeft (left_in outcomes shared) (rows_in vertices) (rows_in between) sent) c.deref_mut.ensures.value
          (subst (λ (vertices : List Held). AreLeft (left_in outcomes shared) (rows_in c.deref_mut.result.now) (rows_in vertices) sent) (sym held)
          (c.in_ok-sent.ensures.calls outcomes tells)));
    }
