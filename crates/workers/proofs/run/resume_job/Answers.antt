use Rattle.coordinator.proofs.Ending.{calm_told_on, joined_begun, on_own, own_begun, unspent_begun, where_mapped, where_run}
use Rattle.workers.proofs.HandedIn.{handed_in}
use Rattle.hub_ends.specs.Hub.{handed, received}
use Rattle.workers.proofs.run.resume_job.Goals as goal

pub run_spawned-ends-requires-clause-book : goal.run_spawned-ends-requires-clause-book
run_spawned-ends-requires-clause-book g c _ _ =
    let b = c.in-Ok.ensures.begun in
    unspent_begun g.J.Origin.work c.in-Ok.book b.heard c.args.superstep b.machine

pub run_spawned-ends-requires-clause-keep : goal.run_spawned-ends-requires-clause-keep
run_spawned-ends-requires-clause-keep g c _ _ = c.in-Ok.ensures.begun.keeps

pub returns-clause-ran : goal.returns-clause-ran
returns-clause-ran g c =
    let r = c.run_spawned-ends.result in
    let b = c.in-Ok.ensures.begun in
    where_run r.2 _
    (where_mapped r.2 _ _ (on_own g.K.Keep.honest g.K.Keep.saved g.K.Keep.may_load g.K.Keep.faults g.J.Origin.work g.J.Origin.honest c.args.superstep b.heard c.in-Ok.book (received r.0) (handed r.0) c.resume.new.keep r.2 b.machine) c.run_spawned-ends.ensures.ran)

pub returns-clause-kept : goal.returns-clause-kept
returns-clause-kept g c =
    let r = c.run_spawned-ends.result in
    let b = c.in-Ok.ensures.begun in
    where_run r.2 _
    (where_mapped r.2 _ _ (own_begun g.K.Keep.honest g.K.Keep.saved g.K.Keep.may_load g.K.Keep.faults g.J.Origin.work g.J.Origin.honest c.args.superstep b.heard c.in-Ok.book (received r.0) (handed r.0) c.args.keep c.resume.new.keep r.2 b.machine b.told) c.run_spawned-ends.ensures.ran)

pub returns-clause-joins : goal.returns-clause-joins
returns-clause-joins g c =
    let r = c.run_spawned-ends.result in
    let b = c.in-Ok.ensures.begun in
    where_run r.2 _
    (where_mapped r.2 _ _ (joined_begun g.J.Origin.work g.J.Origin.honest c.in-Ok.book (received r.0) (handed r.0) r.2 c.args.superstep b.heard b.machine) c.run_spawned-ends.ensures.joins)

pub returns-clause-calm : goal.returns-clause-calm
returns-clause-calm g c = λ one never made.
    let r = c.run_spawned-ends.result in
    let b = c.in-Ok.ensures.begun in
    calm_told_on g.K.Keep.honest g.K.Keep.saved g.K.Keep.may_load g.K.Keep.faults g.J.Origin.work g.J.Origin.honest c.args.superstep (received r.0) (handed r.0) c.args.keep r.2
    (where_run r.2 _
    (where_mapped r.2 _ _ (own_begun g.K.Keep.honest g.K.Keep.saved g.K.Keep.may_load g.K.Keep.faults g.J.Origin.work g.J.Origin.honest c.args.superstep b.heard c.in-Ok.book (received r.0) (handed r.0) c.args.keep c.resume.new.keep r.2 b.machine b.told) c.run_spawned-ends.ensures.ran)) one never made

pub returns-clause-byes : goal.returns-clause-byes
returns-clause-byes g c = where_run c.run_spawned-ends.result.2 _ c.run_spawned-ends.ensures.byes

pub returns-clause-settled : goal.returns-clause-settled
returns-clause-settled g c = where_run c.run_spawned-ends.result.2 _ c.run_spawned-ends.ensures.settled

pub returns-clause-handed_in : goal.returns-clause-handed_in
returns-clause-handed_in g c =
    let r = c.run_spawned-ends.result in
    let e = c.run_spawned-ends.ensures in
    handed_in r.0 r.1 r.2 e.settled e.byes e.spent

pub returns-clause-spent : goal.returns-clause-spent
returns-clause-spent g c = c.run_spawned-ends.ensures.spent

pub returns-clause-refused : goal.returns-clause-refused
returns-clause-refused g c = c.run_spawned-ends.ensures.refused

pub returns-clause-idle : goal.returns-clause-idle
returns-clause-idle g c = c.run_spawned-ends.ensures.idle
