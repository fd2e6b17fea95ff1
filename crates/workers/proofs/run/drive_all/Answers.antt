use Rattle.std.proofs.Common.{◌≡◌, ◌∙◌, arith, false, length, map, ℕ, sym, subst, IfOk}
use Rattle.coordinator.specs.JobAnswers.{HasSpent, RanFromKeep, WhereEnded, has_ended}
use Rattle.hub_ends.specs.Hub.{HasByes, handed, received, staff}
use Rattle.hub_ends.specs.Verdicts.{told_on}
use Rattle.worker_threads.specs.inside.Joins.{AreJoined, AreLinked}
use Rattle.coordinator.specs.inside.Told.{ToldFrom}
use Rattle.hub_ends.proofs.Handed.{length_map}
use Rattle.coordinator.proofs.Ending.{not_ended, where_ended, where_mapped, where_two, with_last}
use Rattle.workers.proofs.Epochs.{epoch_told}
use Rattle.hub_ends.proofs.Handing.{hub_then}
use Rattle.workers.proofs.Joins.{joined_from}
use Rattle.worker_threads.proofs.SpawnedThreads.{threads_same}
use Rattle.workers.proofs.run.drive_all.Goals as goal

pub settle_all-requires-clause-spawned : goal.settle_all-requires-clause-spawned
settle_all-requires-clause-spawned g c = threads_same c.args.ends.now c.drive-answer.new.ends c.args.spawned c.drive-answer.ensures.hub c.requires.spawned

pub returns-then-not-was_driven-clause-settled : goal.returns-then-not-was_driven-clause-settled
returns-then-not-was_driven-clause-settled g c =
    let h : has_ended c.drive-answer.result ≡ false = cc in
    not_ended c.drive-answer.result _ h

pub settle_all-requires-clause-linked : goal.settle_all-requires-clause-linked
settle_all-requires-clause-linked g c = subst (λ l. AreLinked l 0 c.args.spawned.workers.items) (sym c.drive-answer.ensures.linked) c.requires.linked

pub returns-then-not-was_driven-clause-joins : goal.returns-then-not-was_driven-clause-joins
returns-then-not-was_driven-clause-joins g c =
    let h : has_ended c.drive-answer.result ≡ false = cc in
    not_ended c.drive-answer.result _ h

pub returns-then-not-was_driven-clause-ran : goal.returns-then-not-was_driven-clause-ran
returns-then-not-was_driven-clause-ran g c =
    let h : has_ended c.drive-answer.result ≡ false = cc in
    not_ended c.drive-answer.result _ h

pub returns-in-Ok-clause-ran : goal.returns-in-Ok-clause-ran
returns-in-Ok-clause-ran g c =
    let r = c.drive-answer.result in
    let e = c.drive-answer.new.ends in
    let f = c.settle_all.new.ends in
    let k = c.args.keep.now in
    subst (λ l. WhereEnded r (RanFromKeep g.K.Keep.honest g.K.Keep.saved g.K.Keep.may_load g.K.Keep.faults g.J.Origin.work g.J.Origin.honest c.args.book l (handed f) k r)) (sym c.settle_all.ensures.received)
    (subst (λ l. WhereEnded r (RanFromKeep g.K.Keep.honest g.K.Keep.saved g.K.Keep.may_load g.K.Keep.faults g.J.Origin.work g.J.Origin.honest c.args.book (received e) l k r)) (sym c.settle_all.ensures.handed)
    (where_mapped r _ _ (with_last g.K.Keep.honest g.K.Keep.saved g.K.Keep.may_load g.K.Keep.faults g.J.Origin.work g.J.Origin.honest c.args.book (received e) (handed e) k c.drive-answer.new.keep r) c.drive-answer.ensures.ran))

pub returns-in-Ok-clause-joins : goal.returns-in-Ok-clause-joins
returns-in-Ok-clause-joins g c =
    let r = c.drive-answer.result in
    let e = c.drive-answer.new.ends in
    let f = c.settle_all.new.ends in
    let verdicts = c.drive-answer.new.verdicts in
    let told = map told_on verdicts.items in
    let many = c.settle_all.ensures.hub.workers ∙ c.drive-answer.ensures.hub.workers ∙ c.requires.workers in
    let wide : length told ≡ staff f = omega (arith, c.drive-answer.ensures.lines, c.requires.lines, verdicts.ok.0, length_map told_on verdicts.items, c.settle_all.ensures.hub.workers, c.drive-answer.ensures.hub.workers) in
    let joined = subst (λ l. AreJoined g.J.Origin.work g.J.Origin.honest l 0 c.in-Ok.receipts.workers.items) c.in-Ok.ensures.told c.in-Ok.ensures.joined in
    let ran = subst (λ l. WhereEnded r (ToldFrom g.J.Origin.work g.J.Origin.honest c.args.book l (handed f) told r)) (sym c.settle_all.ensures.received)
    (subst (λ l. WhereEnded r (ToldFrom g.J.Origin.work g.J.Origin.honest c.args.book (received e) l told r)) (sym c.settle_all.ensures.handed) c.drive-answer.ensures.told) in
    let byes = subst (λ (n : ℕ). WhereEnded r (HasByes n (received f))) (sym c.settle_all.ensures.hub.workers)
    (subst (λ l. WhereEnded r (HasByes (staff e) l)) (sym c.settle_all.ensures.received) c.drive-answer.ensures.byes) in
    where_two r _ _ _ (joined_from g.J.Origin.work g.J.Origin.honest c.args.book f c.in-Ok.receipts told r c.in-Ok.ensures.settled joined many wide) ran byes

pub returns-in-Ok-clause-epoch : goal.returns-in-Ok-clause-epoch
returns-in-Ok-clause-epoch g c = λ never none.
    let r = c.drive-answer.result in
    let e = c.drive-answer.new.ends in
    let f = c.settle_all.new.ends in
    let told = map told_on c.drive-answer.new.verdicts.items in
    let width = c.requires.book.width ∙ sym (c.settle_all.ensures.hub.workers ∙ c.drive-answer.ensures.hub.workers ∙ c.requires.workers) in
    let ran = subst (λ l. WhereEnded r (ToldFrom g.J.Origin.work g.J.Origin.honest c.args.book l (handed e) told r)) (sym c.settle_all.ensures.received) c.drive-answer.ensures.told in
    let byes = subst (λ (n : ℕ). WhereEnded r (HasByes n (received f))) (sym c.settle_all.ensures.hub.workers)
    (subst (λ l. WhereEnded r (HasByes (staff e) l)) (sym c.settle_all.ensures.received) c.drive-answer.ensures.byes) in
    epoch_told g.J.Origin.work g.J.Origin.honest c.args.book f (handed e) c.in-Ok.receipts told r c.in-Ok.ensures.settled (c.in-Ok.ensures.steady never) width none ran byes

pub returns-in-Ok-clause-byes : goal.returns-in-Ok-clause-byes
returns-in-Ok-clause-byes g c =
    let r = c.drive-answer.result in
    let e = c.drive-answer.new.ends in
    let f = c.settle_all.new.ends in
    subst (λ (n : ℕ). WhereEnded r (HasByes n (received f))) (sym c.settle_all.ensures.hub.workers)
    (subst (λ l. WhereEnded r (HasByes (staff e) l)) (sym c.settle_all.ensures.received) c.drive-answer.ensures.byes)

pub returns-in-Ok-clause-spent : goal.returns-in-Ok-clause-spent
returns-in-Ok-clause-spent g c =
    let r = c.drive-answer.result in
    let e = c.drive-answer.new.ends in
    let f = c.settle_all.new.ends in
    subst (λ (n : ℕ). IfOk r (HasSpent n (received f))) (sym c.settle_all.ensures.hub.workers)
    (subst (λ l. IfOk r (HasSpent (staff e) l)) (sym c.settle_all.ensures.received) c.drive-answer.ensures.spent)

pub returns-in-Ok-clause-settled : goal.returns-in-Ok-clause-settled
returns-in-Ok-clause-settled g c = where_ended c.drive-answer.result _ c.in-Ok.ensures.settled

pub returns-in-Ok-clause-hub : goal.returns-in-Ok-clause-hub
returns-in-Ok-clause-hub g c = hub_then c.drive-answer.ensures.hub c.settle_all.ensures.hub

pub returns-clause-hub : goal.returns-clause-hub
returns-clause-hub g c = hub_then c.drive-answer.ensures.hub c.settle_all.ensures.hub

pub returns-then-not-was_driven-clause-byes : goal.returns-then-not-was_driven-clause-byes
returns-then-not-was_driven-clause-byes g c = c.drive-answer.ensures.byes

pub returns-then-not-was_driven-clause-spent : goal.returns-then-not-was_driven-clause-spent
returns-then-not-was_driven-clause-spent g c = c.drive-answer.ensures.spent

pub returns-then-not-was_driven-clause-refused : goal.returns-then-not-was_driven-clause-refused
returns-then-not-was_driven-clause-refused g c = c.drive-answer.ensures.refused

pub returns-then-not-was_driven-clause-hub : goal.returns-then-not-was_driven-clause-hub
returns-then-not-was_driven-clause-hub g c = c.drive-answer.ensures.hub

pub returns-in-Ok-clause-refused : goal.returns-in-Ok-clause-refused
returns-in-Ok-clause-refused g c = c.drive-answer.ensures.refused
