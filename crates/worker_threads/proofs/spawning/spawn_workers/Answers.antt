use Rattle.std.proofs.Common.{◌∷◌, [], ◌∙◌, ap, map, rules, arith, subst, sym}
use mathlib.Core.List.{map-append}
use Rattle.hub_ends.proofs.Handed.{length_map}
use Rattle.hub_ends.specs.Verdicts.{sends_on, told_on, told_to}
use Rattle.hub_ends.specs.Hub.{AreNewPasses, channels_of}
use Rattle.worker_threads.specs.Threads.{AreOfGate, AreSpawned}
use Rattle.worker_threads.specs.inside.Joins.{AreLinked}
use Rattle.worker_threads.proofs.Epochs.{gate_more}
use Rattle.worker_threads.proofs.Joins.{linked_next}
use Rattle.hub_ends.proofs.Opening.{at_more}
use Rattle.worker_threads.proofs.SpawnedThreads.{spawned_next, pass_first, pass_rest}
use Rattle.worker_threads.proofs.spawning.spawn_workers.Goals as goal

pub loop-pass-preserved : goal.loop-pass-preserved
loop-pass-preserved g c =
    let i = c.loop-pass.invariant in
    let step = c.in-Some.ensures.steps in
    let pass = c.in-Some.pass in
    let new = pass_first _ _ _ pass _ step.0 i.rest in
    let one = c.in_ok-thread in
    let threads = c.loop-pass.threads in
    let verdicts = c.loop-pass.verdicts in
    let added = c.push_reserved-in-loop-pass.ensures.items in
    record {
      rest = pass_rest _ _ _ _ pass _ step.0 c.push_reserved.ensures.len i.rest;
      all = omega (arith, c.push_reserved.ensures.len, step.1, i.all);
      spawned = spawned_next c.args.ends.now pass.worker threads.items _ one.thread c.push_reserved.ensures.items (omega (arith, new.worker)) i.spawned one.ensures.spawned;
      gate = gate_more _ threads.items _ one.thread c.push_reserved.ensures.items i.gate one.ensures.gate;
      room = search rules;
      linked = linked_next (map sends_on verdicts.items) _ (sends_on one.sender) threads.items _ one.thread (ap (map sends_on) added ∙ map-append sends_on verdicts.items (one.sender ∷ [])) c.push_reserved.ensures.items
          (omega (arith, i.lines, threads.ok.0, verdicts.ok.0, length_map sends_on verdicts.items)) one.ensures.line i.linked;
      lines = search rules;
      lines_room = search rules;
      untold = λ w. ap (λ xs. told_to (map told_on xs) w) added ∙ at_more told_on verdicts.items one.sender one.ensures.untold i.untold w;
    }

pub returns-clause-spawned : goal.returns-clause-spawned
returns-clause-spawned g c = c.loop-pass.invariant.spawned

pub returns-clause-gate : goal.returns-clause-gate
returns-clause-gate g c = c.loop-pass.invariant.gate

pub returns-clause-linked : goal.returns-clause-linked
returns-clause-linked g c = c.loop-pass.invariant.linked

pub returns-clause-untold : goal.returns-clause-untold
returns-clause-untold g c = c.loop-pass.invariant.untold

pub loop-pass-init : goal.loop-pass-init
loop-pass-init g c =
    let channels = channels_of c.args.ends.now in
    let given = c.into_iter-pass-iterator.ensures.into_iter_gives in
    let threads = c.in-Ok.ensures in
    let verdicts = c.in-Ok-with_capacity.ensures in
    record {
      rest = subst (λ n. AreNewPasses channels n c.into_iter-pass-iterator.result.rest.items) (sym threads.len) (subst (AreNewPasses channels 0) (sym given.0) c.requires.passes);
      all = omega (arith, threads.len, given.1);
      spawned = subst (AreSpawned c.args.ends.now 0) (sym threads.items) tt;
      gate = subst (AreOfGate (g.G.Gate.loses c.args.gate.now)) (sym threads.items) tt;
      room = omega (arith, threads.len, threads.capacity, c.len.ensures, given.1);
      linked = subst (AreLinked _ 0) (sym threads.items) tt;
      lines = verdicts.len ∙ sym threads.len;
      lines_room = omega (arith, verdicts.len, verdicts.capacity, c.len-2.ensures, given.1);
      untold = λ w. ap (λ xs. told_to (map told_on xs) w) verdicts.items;
    }

pub push_reserved-requires : goal.push_reserved-requires
push_reserved-requires g c = omega (arith, c.in-Some.ensures.steps.1, c.loop-pass.invariant.room)

pub push_reserved-requires-in-loop-pass : goal.push_reserved-requires-in-loop-pass
push_reserved-requires-in-loop-pass g c = omega (arith, c.in-Some.ensures.steps.1, c.loop-pass.invariant.lines_room)

pub returns-clause-all : goal.returns-clause-all
returns-clause-all g c = omega (arith, c.in-None.ensures.steps.0, c.loop-pass.invariant.all)

pub returns-clause-lines : goal.returns-clause-lines
returns-clause-lines g c = omega (arith, c.in-None.ensures.steps.0, c.loop-pass.invariant.all, c.loop-pass.invariant.lines)
