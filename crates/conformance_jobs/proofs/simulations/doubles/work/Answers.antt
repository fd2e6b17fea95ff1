use Rattle.std.proofs.Common.{ap}
use Rattle.control.specs.Machine.{Machine}
use Rattle.book.proofs.Keeps.{keeps_same}
use Rattle.conformance_jobs.proofs.simulations.doubles.work.Goals as goal

pub bring-requires-clause-keep : goal.bring-requires-clause-keep
bring-requires-clause-keep g c κs within =
    let e = c.in-Some.ensures.some in
    keeps_same g.J.Origin.work g.J.Origin.honest (g.K.Keep.honest c.args.keep.now) (g.K.Keep.saved c.args.keep.now)
    (g.K.Keep.may_load c.args.keep.now) c.args.book.now c.next_task.new.self (ap (λ (x : Machine). x.saved) e.1) c.requires.keep
