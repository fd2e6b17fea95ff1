use Rattle.rollback.specs.inside.Simulating.{sim_of, stamps}
use Rattle.rollback.proofs.Simulated
use Rattle.rollback.proofs.simulation.join.Goals as goal

pub returns-clause-step : goal.returns-clause-step
returns-clause-step g c =
    let j = g.J.Origin.work in
    let h = g.J.Origin.honest in
    let w = c.args.worker in
    let s = sim_of c.args.book.now c.args.held.now in
    let t = c.tell.ensures.step in
    Simulated.join_told j h w s c.tell.new.book (stamps c.empty_if_gone.new.held) t.0 c.tell.result c.empty_if_gone.ensures t.2 t.1
