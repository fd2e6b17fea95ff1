use Rattle.coordinator.proofs.Ending.{calm_told, ended_own, joined_opened, keeps_first, opened_of, own_opened, unspent_opened, where_mapped, where_run}
use Rattle.std.proofs.Common.{◌∙◌, ap}
use Rattle.control.specs.Machine.{Machine, count_set}
use Rattle.control.proofs.ByPlace.{count_none}
use Rattle.hub_ends.specs.Hub.{handed, received}
use Rattle.workers.proofs.Epochs.{epoch_none}
use Rattle.workers.proofs.HandedIn.{handed_in}
use Rattle.workers.proofs.run.run_job.Goals as goal

pub returns-clause-ran : goal.returns-clause-ran
returns-clause-ran g c =
    let r = c.run_spawned-ends.result in
    let o = opened_of g.J.Origin.work c.args.job.now c.in-Ok.book c.requires.job c.in-Ok.ensures.opened in
    where_run r.2 _
    (where_mapped r.2 _ _ (ended_own g.K.Keep.honest g.K.Keep.saved g.K.Keep.may_load g.K.Keep.faults g.J.Origin.work g.J.Origin.honest c.in-Ok.book (received r.0) (handed r.0) c.args.keep r.2 o) c.run_spawned-ends.ensures.ran)

pub returns-clause-kept : goal.returns-clause-kept
returns-clause-kept g c =
    let r = c.run_spawned-ends.result in
    let o = opened_of g.J.Origin.work c.args.job.now c.in-Ok.book c.requires.job c.in-Ok.ensures.opened in
    where_run r.2 _
    (where_mapped r.2 _ _ (own_opened g.K.Keep.honest g.K.Keep.saved g.K.Keep.may_load g.K.Keep.faults g.J.Origin.work g.J.Origin.honest c.in-Ok.book (received r.0) (handed r.0) c.args.keep r.2 o) c.run_spawned-ends.ensures.ran)

pub returns-clause-joins : goal.returns-clause-joins
returns-clause-joins g c =
    let r = c.run_spawned-ends.result in
    let o = opened_of g.J.Origin.work c.args.job.now c.in-Ok.book c.requires.job c.in-Ok.ensures.opened in
    where_run r.2 _
    (where_mapped r.2 _ _ (joined_opened g.J.Origin.work g.J.Origin.honest c.in-Ok.book (received r.0) (handed r.0) r.2 o) c.run_spawned-ends.ensures.joins)

pub returns-clause-calm : goal.returns-clause-calm
returns-clause-calm g c = λ one never.
    let r = c.run_spawned-ends.result in
    let o = opened_of g.J.Origin.work c.args.job.now c.in-Ok.book c.requires.job c.in-Ok.ensures.opened in
    calm_told g.K.Keep.honest g.K.Keep.saved g.K.Keep.may_load g.K.Keep.faults g.J.Origin.work g.J.Origin.honest (received r.0) (handed r.0) c.args.keep r.2
    (where_run r.2 _ (where_mapped r.2 _ _ (own_opened g.K.Keep.honest g.K.Keep.saved g.K.Keep.may_load g.K.Keep.faults g.J.Origin.work g.J.Origin.honest c.in-Ok.book (received r.0) (handed r.0) c.args.keep r.2 o) c.run_spawned-ends.ensures.ran)) one never

pub run_spawned-ends-requires-clause-book : goal.run_spawned-ends-requires-clause-book
run_spawned-ends-requires-clause-book g c _ _ = unspent_opened g.J.Origin.work c.in-Ok.book (opened_of g.J.Origin.work c.args.job.now c.in-Ok.book c.requires.job c.in-Ok.ensures.opened)

pub run_spawned-ends-requires-clause-keep : goal.run_spawned-ends-requires-clause-keep
run_spawned-ends-requires-clause-keep g c _ _ =
    let k = c.args.keep in
    keeps_first g.J.Origin.work g.J.Origin.honest (g.K.Keep.honest k) (g.K.Keep.saved k) (g.K.Keep.may_load k) c.in-Ok.book (opened_of g.J.Origin.work c.args.job.now c.in-Ok.book c.requires.job c.in-Ok.ensures.opened) c.requires.keep

pub returns-clause-byes : goal.returns-clause-byes
returns-clause-byes g c = where_run c.run_spawned-ends.result.2 _ c.run_spawned-ends.ensures.byes

pub returns-clause-settled : goal.returns-clause-settled
returns-clause-settled g c = where_run c.run_spawned-ends.result.2 _ c.run_spawned-ends.ensures.settled

pub returns-clause-handed_in : goal.returns-clause-handed_in
returns-clause-handed_in g c =
    let r = c.run_spawned-ends.result in
    let e = c.run_spawned-ends.ensures in
    handed_in r.0 r.1 r.2 e.settled e.byes e.spent

pub returns-clause-epoch : goal.returns-clause-epoch
returns-clause-epoch g c = λ never.
    let r = c.run_spawned-ends.result in
    let o = opened_of g.J.Origin.work c.args.job.now c.in-Ok.book c.requires.job c.in-Ok.ensures.opened in
    let none = ap (λ (m : Machine). count_set m.waiting) o.2 ∙ count_none g.J.Origin.work.settings.workers in
    epoch_none r.2 c.in-Ok.book.epoch (ap (λ (m : Machine). m.epoch) o.2) (c.run_spawned-ends.ensures.epoch never none)

pub returns-clause-spent : goal.returns-clause-spent
returns-clause-spent g c = c.run_spawned-ends.ensures.spent

pub returns-clause-refused : goal.returns-clause-refused
returns-clause-refused g c = c.run_spawned-ends.ensures.refused

pub returns-clause-idle : goal.returns-clause-idle
returns-clause-idle g c = c.run_spawned-ends.ensures.idle
