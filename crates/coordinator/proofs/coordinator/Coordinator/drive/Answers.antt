use Rattle.std.proofs.Common.{Some, subst, sym}
use Rattle.coordinator.specs.Coordinator.{IsSameOn}
use Rattle.coordinator.proofs.Ending.{calm_driven, ended_over, keeps_first, over_opened, unspent_opened, where_mapped}
use Rattle.coordinator.proofs.Moving.{left_none}
use Rattle.hub_ends.specs.Hub.{handed, received}
use Rattle.coordinator.proofs.coordinator.Coordinator.drive.Goals as goal

pub drive-requires-clause-book : goal.drive-requires-clause-book
drive-requires-clause-book g c _ _ = unspent_opened g.J.Origin.work c.args.book c.requires.book

pub drive-requires-clause-keep : goal.drive-requires-clause-keep
drive-requires-clause-keep g c _ _ =
    let k = c.args.keep.now in
    keeps_first g.J.Origin.work g.J.Origin.honest (g.K.Keep.honest k) (g.K.Keep.saved k) (g.K.Keep.may_load k) c.args.book c.requires.book c.requires.keep

pub returns-in-Some-clause-ran : goal.returns-in-Some-clause-ran
returns-in-Some-clause-ran g c =
    let ends = c.drive.new.ends in
    where_mapped c.drive.result _ _
    (ended_over g.K.Keep.honest g.K.Keep.saved g.K.Keep.may_load g.K.Keep.faults g.J.Origin.work g.J.Origin.honest c.args.book (received ends) (handed ends) c.args.keep.now c.drive.new.keep c.drive.result c.requires.book) c.drive.ensures.ran

pub returns-in-Some-clause-kept : goal.returns-in-Some-clause-kept
returns-in-Some-clause-kept g c =
    let ends = c.drive.new.ends in
    where_mapped c.drive.result _ _
    (over_opened g.K.Keep.honest g.K.Keep.saved g.K.Keep.may_load g.K.Keep.faults g.J.Origin.work g.J.Origin.honest c.args.book (received ends) (handed ends) c.args.keep.now c.drive.new.keep c.drive.result c.requires.book) c.drive.ensures.ran

pub returns-in-Some-clause-calm : goal.returns-in-Some-clause-calm
returns-in-Some-clause-calm g c = λ one never.
    let ends = c.drive.new.ends in
    calm_driven g.K.Keep.honest g.K.Keep.saved g.K.Keep.may_load g.K.Keep.faults g.J.Origin.work g.J.Origin.honest (received ends) (handed ends) c.args.keep.now c.drive.new.keep c.drive.result
    (where_mapped c.drive.result _ _ (over_opened g.K.Keep.honest g.K.Keep.saved g.K.Keep.may_load g.K.Keep.faults g.J.Origin.work g.J.Origin.honest c.args.book (received ends) (handed ends) c.args.keep.now c.drive.new.keep c.drive.result c.requires.book) c.drive.ensures.ran)
    one never

pub returns-in-None-clause-left : goal.returns-in-None-clause-left
returns-in-None-clause-left g c =
    let k = c.args.keep.now in
    left_none g.K.Keep.honest g.K.Keep.saved g.K.Keep.may_load g.K.Keep.faults g.J.Origin.work g.J.Origin.honest c.args.book _ k
    (keeps_first g.J.Origin.work g.J.Origin.honest (g.K.Keep.honest k) (g.K.Keep.saved k) (g.K.Keep.may_load k) c.args.book c.requires.book c.requires.keep)

pub returns-in-Some-clause-hub : goal.returns-in-Some-clause-hub
returns-in-Some-clause-hub g c = subst (λ ends. IsSameOn ends (Some c.drive.new.ends)) (sym c.in-Some.is) c.drive.ensures.hub

pub returns-in-Some-clause-byes : goal.returns-in-Some-clause-byes
returns-in-Some-clause-byes g c = c.drive.ensures.byes

pub returns-in-Some-clause-spent : goal.returns-in-Some-clause-spent
returns-in-Some-clause-spent g c = c.drive.ensures.spent

pub returns-in-Some-clause-stopped : goal.returns-in-Some-clause-stopped
returns-in-Some-clause-stopped g c = c.drive.ensures.stopped

pub returns-in-Some-clause-refused : goal.returns-in-Some-clause-refused
returns-in-Some-clause-refused g c = c.drive.ensures.refused
