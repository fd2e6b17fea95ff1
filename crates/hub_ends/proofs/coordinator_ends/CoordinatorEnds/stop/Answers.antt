use Rattle.std.proofs.Common.{◌≡◌, ◌<◌, ◌∙◌, ℕ, OnOk, arith, refl, subst, sym}
use Rattle.hub_ends.specs.Hub.{IsStopped, staff}
use Rattle.hub_ends.proofs.Handed.{below_more, ok_gives}
use Rattle.hub_ends.proofs.Handing.{hub_then}
use Rattle.hub_ends.proofs.coordinator_ends.CoordinatorEnds.stop.Goals as goal
use Rattle.hub_ends.proofs.coordinator_ends.CoordinatorEnds.stop.Goals.{then-is_err, else-is_err}

pub loop-worker-preserved : goal.loop-worker-preserved
loop-worker-preserved g c =
    let i = c.loop-worker.invariant in
    let s = c.stop_one.ensures in
    let n = c.loop-worker.worker in
    record {
      stopped = elim c.if-is_err.branch [
        | then-is_err w ↦ rw w.answer-is tt
        | else-is_err w ↦ rw w.answer-is (below_more (IsStopped c.loop-worker.self) (IsStopped c.stop_one.new.self) n c.loop-worker.answer i.stopped s.kept (ok_gives _ c.stop_one.result (sym c.is_err.ensures.value ∙ w.if-is_err.false) s.stopped))
      ];
      tasks = λ w. s.tasks w ∙ i.tasks w;
      received = s.received ∙ i.received;
      hub = hub_then i.hub s.hub;
      end = i.end;
    }

pub returns-clause-tasks : goal.returns-clause-tasks
returns-clause-tasks g c = c.loop-worker.invariant.tasks

pub returns-clause-received : goal.returns-clause-received
returns-clause-received g c = c.loop-worker.invariant.received

pub returns-clause-hub : goal.returns-clause-hub
returns-clause-hub g c = c.loop-worker.invariant.hub

pub loop-worker-init : goal.loop-worker-init
loop-worker-init g c = record {
  stopped = λ w less. absurd (omega (arith, less));
  tasks = λ w. refl;
  received = refl;
  hub = record { channels = refl; workers = refl };
  end = c.len-worker-end.ensures;
}

pub returns-clause-stopped : goal.returns-clause-stopped
returns-clause-stopped g c =
    let i = c.loop-worker.invariant in
    let all : c.loop-worker.worker ≡ staff c.loop-worker.self =
    omega (arith, c.loop-worker-test.false, c.loop-worker.auto.worker-end, i.end, i.hub.workers) in
    subst (λ n. OnOk c.loop-worker.answer ((w : ℕ) → w < n → IsStopped c.loop-worker.self w)) all i.stopped
