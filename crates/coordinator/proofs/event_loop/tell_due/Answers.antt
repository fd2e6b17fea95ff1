use Rattle.std.proofs.Common.{◌<◌, OnOk, arith, length, map, set, subst, sym}
use Rattle.hub_ends.proofs.Handed.{length_map, map_one, map_same, on_ok}
use Rattle.hub_ends.specs.Verdicts.{sends_on, told_on}
use Rattle.coordinator.specs.inside.Told.{IsToldNext}
use Rattle.coordinator.proofs.Telling.{told_nobody, told_one, told_past}
use Rattle.coordinator.proofs.event_loop.tell_due.Goals as goal

pub returns-in_default-clause-told : goal.returns-in_default-clause-told
returns-in_default-clause-told g c =
    let told = map told_on c.args.verdicts.now.items in
    subst (λ d. IsToldNext told told d) (sym c.in_default.is) (told_nobody told)

pub returns-then-worker-len-clause-told : goal.returns-then-worker-len-clause-told
returns-then-worker-len-clause-told g c =
    let verdicts = c.args.verdicts.now in
    let told = map told_on verdicts.items in
    subst (λ d. IsToldNext told told d) (sym c.in-Some.is) (told_past told c.in-Some.due (omega (arith, c.if-worker-len.true, verdicts.ok.0, length_map told_on verdicts.items)))

pub returns-clause-told : goal.returns-clause-told
returns-clause-told g c =
    let verdicts = c.args.verdicts.now in
    let told = map told_on verdicts.items in
    let due = c.in-Some.due in
    let next = map told_on (set verdicts.items due.worker c.tell.new.self) in
    let here : due.worker < length verdicts.items = omega (arith, c.if-worker-len.false, verdicts.ok.0) in
    subst (λ d. OnOk c.tell.result (IsToldNext told next d)) (sym c.in-Some.is)
    (told_one c.tell.result told next due (omega (arith, here, length_map told_on verdicts.items))
    (on_ok _ _ c.tell.result c.tell.ensures.told (λ e. map_one told_on verdicts.items due.worker c.index_mut-sender.result.now c.tell.new.self due.counted here c.index_mut-sender.ensures.value e)))

pub returns-clause-linked : goal.returns-clause-linked
returns-clause-linked g c =
    let verdicts = c.args.verdicts.now in
    let due = c.in-Some.due in
    map_same sends_on verdicts.items due.worker c.index_mut-sender.result.now c.tell.new.self (omega (arith, c.if-worker-len.false, verdicts.ok.0)) c.index_mut-sender.ensures.value c.tell.ensures.line
