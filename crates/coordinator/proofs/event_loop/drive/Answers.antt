use Rattle.std.proofs.Common.{◌≡◌, length, map, arith, subst, sym, ◌∙◌}
use Rattle.hub_ends.specs.Hub.{handed, received, staff}
use Rattle.coordinator.specs.JobAnswers.{IsLeftBy}
use Rattle.hub_ends.specs.Verdicts.{told_on}
use Rattle.coordinator.proofs.Ending.{drive_fault, has_spent, ran_over, told_from, where_ended}
use Rattle.hub_ends.proofs.Handing.{handed_len, hub_then}
use Rattle.coordinator.proofs.event_loop.drive.Goals as goal

pub returns-in-Ok-clause-ran : goal.returns-in-Ok-clause-ran
returns-in-Ok-clause-ran g c =
    let s = c.args.ends.now in
    let t = c.run_out.new.ends in
    let many : g.J.Origin.work.settings.workers ≡ length (handed s) = omega (arith, c.requires.workers, handed_len s) in
    where_ended c.answer_of.result _
    (ran_over g.K.Keep.honest g.K.Keep.saved g.K.Keep.may_load g.K.Keep.faults g.J.Origin.work g.J.Origin.honest c.args.book c.run_out.new.book (received s) (received t) (handed s) (handed t) c.args.keep.now c.run_out.new.keep c.answer_of.result
    c.in-Ok.ensures.steps.over c.requires.unused.nothing_received c.requires.unused.nothing_handed many c.in-Ok.ensures.keep c.answer_of.ensures)

pub returns-in-Ok-clause-told : goal.returns-in-Ok-clause-told
returns-in-Ok-clause-told g c =
    let s = c.args.ends.now in
    let t = c.run_out.new.ends in
    let many : g.J.Origin.work.settings.workers ≡ length (handed s) = omega (arith, c.requires.workers, handed_len s) in
    where_ended c.answer_of.result _
    (told_from g.J.Origin.work g.J.Origin.honest c.args.book c.run_out.new.book (received s) (received t) (handed s) (handed t) _ c.args.keep.now c.run_out.new.keep (map told_on c.run_out.new.verdicts.items) c.answer_of.result
    c.in-Ok.ensures.steps c.requires.unused.nothing_received c.requires.unused.nothing_handed many c.answer_of.ensures)

pub returns-in-Ok-clause-left : goal.returns-in-Ok-clause-left
returns-in-Ok-clause-left g c = c.run_out.ensures.left

pub returns-in-Ok-clause-byes : goal.returns-in-Ok-clause-byes
returns-in-Ok-clause-byes g c = where_ended c.answer_of.result _ c.in-Ok.ensures.byes

pub returns-in-Ok-clause-stopped : goal.returns-in-Ok-clause-stopped
returns-in-Ok-clause-stopped g c = where_ended c.answer_of.result _ c.in-Ok.ensures.stopped

pub returns-in-Ok-clause-spent : goal.returns-in-Ok-clause-spent
returns-in-Ok-clause-spent g c =
    let s = c.args.ends.now in
    let t = c.run_out.new.ends in
    has_spent g.J.Origin.work g.J.Origin.honest c.args.book c.run_out.new.book (received s) (received t) (handed s) (handed t) c.answer_of.result (staff t)
    c.in-Ok.ensures.steps.over.steps c.requires.book c.requires.unused.nothing_received (c.in-Ok.ensures.hub.workers ∙ c.requires.workers) c.answer_of.ensures

pub returns-in-Ok-clause-refused : goal.returns-in-Ok-clause-refused
returns-in-Ok-clause-refused g c =
    let s = c.args.ends.now in
    let t = c.run_out.new.ends in
    drive_fault g.J.Origin.work g.J.Origin.honest c.args.book c.run_out.new.book (received s) (received t) (handed s) (handed t) c.answer_of.result
    c.in-Ok.ensures.steps.over.steps c.requires.book c.answer_of.ensures

pub returns-in-Err-clause-hub : goal.returns-in-Err-clause-hub
returns-in-Err-clause-hub g c = hub_then c.run_out.ensures.hub c.stop-closed.ensures.hub

pub returns-in-Err-clause-left : goal.returns-in-Err-clause-left
returns-in-Err-clause-left g c =
    subst (λ l. IsLeftBy g.K.Keep.honest g.K.Keep.saved g.K.Keep.may_load g.K.Keep.faults g.J.Origin.work g.J.Origin.honest c.args.book (received c.args.ends.now) l c.args.keep.now c.run_out.new.keep) (sym c.stop-closed.ensures.received) c.run_out.ensures.left

pub returns-in-Ok-clause-hub : goal.returns-in-Ok-clause-hub
returns-in-Ok-clause-hub g c = c.run_out.ensures.hub

pub returns-in-Ok-clause-linked : goal.returns-in-Ok-clause-linked
returns-in-Ok-clause-linked g c = c.run_out.ensures.linked

pub returns-in-Ok-clause-lines : goal.returns-in-Ok-clause-lines
returns-in-Ok-clause-lines g c = c.run_out.ensures.lines

pub returns-in-Err-clause-linked : goal.returns-in-Err-clause-linked
returns-in-Err-clause-linked g c = c.run_out.ensures.linked

pub returns-in-Err-clause-lines : goal.returns-in-Err-clause-lines
returns-in-Err-clause-lines g c = c.run_out.ensures.lines
