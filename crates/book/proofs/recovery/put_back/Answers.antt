use Rattle.std.proofs.Common.{◌≡◌, None, Some, sym, ap, ◌∙◌, subst}
use Rattle.std.specs.Prelude.{◌⊎◌}
use Rattle.checkpoint.specs.Keep.{HasFailed}
use Rattle.superstep.specs.Job.{Work}
use Rattle.control.specs.declared.job_status.DeviceResult.TheVariants.{Failed}
use Rattle.control.specs.Machine.{Machine}
use Rattle.control.specs.Events.{loading, slicing}
use Rattle.book.specs.Saving.{IsFullStateAt, MayLoadOther}
use Rattle.book.specs.inside.Book.{AreIdsOf}
use Rattle.book.specs.inside.Recovery.{has_room}
use Rattle.book.proofs.Slices.{failed_cause, found_none, found_some, ids_are}
use Rattle.book.proofs.recovery.put_back.Goals as goal

pub hold-requires-clause-fits : goal.hold-requires-clause-fits
hold-requires-clause-fits g c =
    let x = c.in-Ok-Some in
    let field = x.field-0-is in
    let same = x.state-is in
    let is : x.field-0 ≡ Some x.state = cc in
    let found = found_some x.field-0 x.state _ _ is x.ensures.found in
    c.requires.ids.those x.state (ids_are x.state.vertices c.args.ids.now found.2.ids)

pub hold-requires-clause-at : goal.hold-requires-clause-at
hold-requires-clause-at g c = λ sure.
    let s = c.in-Some.superstep in
    let x = c.in-Ok-Some in
    let field = x.field-0-is in
    let state_is = x.state-is in
    let is : x.field-0 ≡ Some x.state = cc in
    let found = found_some x.field-0 x.state _ _ is x.ensures.found in
    let kept = c.requires.keep.bytes sure s (sym c.in-Some.ensures) found.0 found.1 x.state found.2.spelled in
    let same : kept.state ≡ x.state = c.a_checkpoint_is_of_one_state.ensures found.0 kept.state x.state kept.spelled found.2.spelled in
    subst (λ n. IsFullStateAt g.J.Origin.work n x.state) (sym found.2.superstep) (subst (λ z. IsFullStateAt g.J.Origin.work s z) same kept.full)

pub returns-in-Ok-None-clause-told : goal.returns-in-Ok-None-clause-told
returns-in-Ok-None-clause-told g c =
    let m = c.args.control.now in
    let s = c.in-Some.superstep in
    let saved : m.saved ≡ Some s = sym c.in-Some.ensures in
    let knows : AreIdsOf g.J.Origin.work c.args.ids.now = subst (λ (w : Work). AreIdsOf w c.args.ids.now) (sym c.requires.job) c.requires.ids in
    let before = g.K.Keep.faults c.args.keep.now in
    let after = g.K.Keep.faults c.load.new.keep in
    let may_load = g.K.Keep.may_load c.args.keep.now in
    let x = c.in-Ok-None in
    let field = x.field-0-is in
    let is : x.field-0 ≡ None = cc in
    let found = found_none x.field-0 _ _ is x.ensures.found in (
      Failed,
      c.hold_first-in-Ok-None.ensures.control ∙ ap (λ (x : Machine). slicing (has_room c.hold_first-in-Ok-None.result) x) (c.restart.ensures ∙ sym (ap (λ o. loading o Failed m) saved)),
      record {
        honest_is = c.load.ensures.honest;
        saved_is = c.load.ensures.saved;
        bytes_are = c.load.ensures.same;
        cause = λ failed. subst (λ o. HasFailed before after ⊎ MayLoadOther g.J.Origin.work o may_load) (sym saved) (failed_cause g.J.Origin.work s c.args.ids.now may_load before after knows found);
      },
    )
