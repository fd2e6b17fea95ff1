use Rattle.rollback.specs.inside.Simulating.{sim_of}
use Rattle.book.proofs.Counts.{kept_still}
use Rattle.rollback.proofs.Simulated
use Rattle.rollback.proofs.simulation.step_of.Goals as goal

pub returns-in-Lose-clause-step : goal.returns-in-Lose-clause-step
returns-in-Lose-clause-step g c =
    let t = c.tell.ensures.step in
    rw c.in-Lose.is (Simulated.lose_told g.J.Origin.work g.J.Origin.honest c.in-Lose.worker (sim_of c.args.book.now c.args.held.now) c.tell.new.book t.0 c.tell.result t.2 t.1)

pub returns-in-Tick-clause-step : goal.returns-in-Tick-clause-step
returns-in-Tick-clause-step g c =
    let t = c.tell-in-Tick.ensures.step in
    rw c.in-Tick.is (Simulated.tick_told g.J.Origin.work g.J.Origin.honest (sim_of c.args.book.now c.args.held.now) c.tell-in-Tick.new.book t.0 c.tell-in-Tick.result t.2 t.1)

pub returns-in-Take-clause-kept : goal.returns-in-Take-clause-kept
returns-in-Take-clause-kept g c = kept_still g.K.Keep.honest g.K.Keep.saved g.K.Keep.may_load g.K.Keep.faults g.J.Origin.work g.J.Origin.honest c.args.book.now c.take.new.book c.args.keep.now c.requires.keep c.take.ensures.saved c.take.ensures.counts

pub returns-in-Take-clause-runner : goal.returns-in-Take-clause-runner
returns-in-Take-clause-runner g c = c.requires.runner

pub returns-in-Take-clause-step : goal.returns-in-Take-clause-step
returns-in-Take-clause-step g c = rw c.in-Take.is c.take.ensures.step

pub returns-in-Take-clause-keep : goal.returns-in-Take-clause-keep
returns-in-Take-clause-keep g c = (kept_still g.K.Keep.honest g.K.Keep.saved g.K.Keep.may_load g.K.Keep.faults g.J.Origin.work g.J.Origin.honest c.args.book.now c.take.new.book c.args.keep.now c.requires.keep c.take.ensures.saved c.take.ensures.counts).keeps

pub returns-in-Work-clause-runner : goal.returns-in-Work-clause-runner
returns-in-Work-clause-runner g c = c.work.ensures.runner

pub returns-in-Work-clause-step : goal.returns-in-Work-clause-step
returns-in-Work-clause-step g c = rw c.in-Work.is c.work.ensures.step

pub returns-in-Work-clause-keep : goal.returns-in-Work-clause-keep
returns-in-Work-clause-keep g c = c.work.ensures.keep

pub returns-in-Work-clause-kept : goal.returns-in-Work-clause-kept
returns-in-Work-clause-kept g c = c.work.ensures.kept

pub returns-in-Lose-clause-runner : goal.returns-in-Lose-clause-runner
returns-in-Lose-clause-runner g c = c.requires.runner

pub returns-in-Lose-clause-keep : goal.returns-in-Lose-clause-keep
returns-in-Lose-clause-keep g c = c.tell.ensures.keep

pub returns-in-Lose-clause-kept : goal.returns-in-Lose-clause-kept
returns-in-Lose-clause-kept g c = c.tell.ensures.kept

pub returns-in-Tick-clause-runner : goal.returns-in-Tick-clause-runner
returns-in-Tick-clause-runner g c = c.requires.runner

pub returns-in-Tick-clause-keep : goal.returns-in-Tick-clause-keep
returns-in-Tick-clause-keep g c = c.tell-in-Tick.ensures.keep

pub returns-in-Tick-clause-kept : goal.returns-in-Tick-clause-kept
returns-in-Tick-clause-kept g c = c.tell-in-Tick.ensures.kept

pub returns-in-Join-clause-runner : goal.returns-in-Join-clause-runner
returns-in-Join-clause-runner g c = c.requires.runner

pub returns-in-Join-clause-step : goal.returns-in-Join-clause-step
returns-in-Join-clause-step g c = rw c.in-Join.is c.join.ensures.step

pub returns-in-Join-clause-keep : goal.returns-in-Join-clause-keep
returns-in-Join-clause-keep g c = c.join.ensures.keep

pub returns-in-Join-clause-kept : goal.returns-in-Join-clause-kept
returns-in-Join-clause-kept g c = c.join.ensures.kept
