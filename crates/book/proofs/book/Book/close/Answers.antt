use Rattle.std.proofs.Common.{◌≡◌, ◌<◌, ◌≤◌, suc, replicate, true, false, refl, sym, ap, ◌∙◌, subst, add-one, arith, inl}
use Rattle.job_state.specs.declared.fault.JobFault.TheVariants.{OutOfMemory}
use Rattle.job_state.specs.declared.fault.Place.TheVariants.{Merge}
use Rattle.superstep.specs.Job.{Work}
use Rattle.superstep.specs.State.{HasIdsOf}
use Rattle.control.specs.declared.job_status.DeviceResult.TheVariants.{Good}
use Rattle.control.specs.Machine.{Machine, all_set, closed, ended_by, is_running, is_saved_now, saved_or_first, welcomed}
use Rattle.control.specs.Events.{advanced, reply_of, saving, slicing}
use Rattle.book.specs.inside.Parts.Spot.{Returned}
use Rattle.book.specs.Book.{IsQuietAt}
use Rattle.book.specs.Saving.{IsFullStateAt, KeepsFor, LoadsNoMore}
use Rattle.book.specs.inside.DeviceResults.{IsSaveResult}
use Rattle.book.specs.inside.Book.{AreParts, HoldsData}
use Rattle.book.specs.inside.JobData.{Runs}
use Rattle.book.specs.inside.Recovery.{IsHeldOf, has_room}
use Rattle.superstep.proofs.Trusting.{earlier}
use Rattle.book.proofs.Keeps
use Rattle.book.proofs.Kept
use Rattle.book.proofs.book.Book.close.Goals as goal

pub into_parts-parts-requires : goal.into_parts-parts-requires
into_parts-parts-requires g c =
    let i = c.self.inside in
    let r = Kept.runs g.J.Origin.work g.J.Origin.honest i.control i.job_data c.self.invariant.held (subst (λ (m : Machine). is_running m.ending ≡ true) (sym c.self.view_is) c.requires.running) in
    subst (λ h. Runs h (λ _. Unit {0})) (sym (c.replace.ensures.value ∙ r.1)) tt

pub merge-requires-clause-all : goal.merge-requires-clause-all
merge-requires-clause-all g c κs within =
    let i = c.self.inside in
    let x : AreParts g.J.Origin.work i.control c.into_parts-parts.result = subst (λ h. HoldsData g.J.Origin.work g.J.Origin.honest i.control h) (sym c.replace.ensures.value ∙ c.into_parts-parts.ensures) c.self.invariant.held in
    Kept.all_returned_is g.J.Origin.work i.control c.into_parts-parts.result x (subst (λ (m : Machine). all_set m.done ≡ true) (sym c.self.view_is) c.requires.done)
    ∙ ap (λ (work : Work). replicate work.settings.parts Returned) (sym c.self.invariant.job)

pub merge-requires-clause-early : goal.merge-requires-clause-early
merge-requires-clause-early g c κs within =
    let i = c.self.inside in
    let x : AreParts g.J.Origin.work i.control c.into_parts-parts.result = subst (λ h. HoldsData g.J.Origin.work g.J.Origin.honest i.control h) (sym c.replace.ensures.value ∙ c.into_parts-parts.ensures) c.self.invariant.held in
    rw (c.self.invariant.job, x.superstep) x.early

pub invariant_of-self : goal.invariant_of-self
invariant_of-self g c =
    let i = c.self.inside in
    rw c.fail.ensures (Kept.book_ended g.J.Origin.work g.J.Origin.honest i.job.now i.control i.ids.items i.job_data _ (OutOfMemory Merge) c.replace.ensures.after c.self.invariant)

pub returns-in_default : goal.returns-in_default
returns-in_default g c =
    let m = c.args.self.now in
    let is = c.fail.ensures ∙ ap (λ x. ended_by (OutOfMemory Merge) x) c.self.view_is in
    record {
      step = record {
        heard = record { quiet = false; merged = false; save = Good; load = Good; sliced = true };
        quiet = λ h later. let stays = ap (λ (x : Machine). x.superstep) is in absurd (omega (arith, stays, later));
        machine = sym is;
        told = refl;
      };
      keeps = Keeps.keeps_same g.J.Origin.work g.J.Origin.honest (g.K.Keep.honest c.args.keep.now) (g.K.Keep.saved c.args.keep.now) (g.K.Keep.may_load c.args.keep.now) m c.fail.new.self (ap (λ (x : Machine). x.saved) is) c.requires.keep;
      cause = record { missed = inl (ap (λ (x : Machine). x.missed) is); restarts = inl (ap (λ (x : Machine). x.restarts) is) };
      left = inl refl;
      loads = inl (λ bytes may. may, inl (ap (λ (x : Machine). x.saved) is));
    }

pub hold-requires-clause-at : goal.hold-requires-clause-at
hold-requires-clause-at g c = λ sure.
    let honest = g.J.Origin.honest in
    let i = c.self.inside in
    let parts = c.into_parts-parts.result in
    let told = c.save_if_due.ensures.told.0 in
    let x : AreParts g.J.Origin.work i.control parts = subst (λ h. HoldsData g.J.Origin.work honest i.control h) (sym c.replace.ensures.value ∙ c.into_parts-parts.ensures) c.self.invariant.held in
    let same : c.save_if_due.new.control.epoch ≡ i.control.epoch =
    ap (λ (m : Machine). m.epoch) (c.save_if_due.ensures.told.1 ∙ ap (λ m. saving told m) c.close.ensures) ∙ Kept.epoch_saving (closed c.is_quiet.result i.control) told in
    let own = earlier honest g.J.Origin.lasts parts.epoch i.control.epoch x.epoch (subst (λ n. honest n ≡ true) same sure) in
    subst (λ n. IsFullStateAt g.J.Origin.work n c.in-Ok.state) (sym c.in-Ok.ensures.superstep) (c.in-Ok.ensures.next own)

pub invariant_of-self-2 : goal.invariant_of-self-2
invariant_of-self-2 g c =
    let work = g.J.Origin.work in
    let honest = g.J.Origin.honest in
    let i = c.self.inside in
    let b = c.self.invariant in
    let run = subst (λ (m : Machine). is_running m.ending ≡ true) (sym c.self.view_is) c.requires.running in
    let done = subst (λ (m : Machine). all_set m.done ≡ true) (sym c.self.view_is) c.requires.done in
    let x : AreParts work i.control c.into_parts-parts.result = subst (λ h. HoldsData work honest i.control h) (sym c.replace.ensures.value ∙ c.into_parts-parts.ensures) b.held in
    let state = c.in-Ok.state in
    let quiet = c.is_quiet.result in
    let told = c.save_if_due.ensures.told.0 in
    let sliced = has_room c.hold.result in
    let m1 = saving told (closed quiet i.control) in
    let later : state.superstep ≡ suc i.control.superstep = c.in-Ok.ensures.superstep ∙ ap (λ n. suc n) x.superstep in
    let at = λ (sure : honest i.control.epoch ≡ true). subst (λ n. IsFullStateAt work n state) (sym c.in-Ok.ensures.superstep) (c.in-Ok.ensures.next (earlier honest g.J.Origin.lasts c.into_parts-parts.result.epoch i.control.epoch x.epoch sure)) in
    let at1 = λ (sure : honest m1.epoch ≡ true). at (subst (λ n. honest n ≡ true) (Kept.epoch_saving (closed quiet i.control) told) sure) in
    let e1 : c.save_if_due.new.control ≡ m1 = c.save_if_due.ensures.told.1 ∙ ap (λ m. saving told m) c.close.ensures in
    let e2 : c.hold.new.control ≡ slicing sliced m1 = c.hold.ensures.control ∙ ap (λ m. slicing sliced m) e1 in
    let truth = λ (sure : honest i.control.epoch ≡ true). subst (λ q. IsQuietAt work (suc i.control.superstep) q) (sym c.is_quiet.ensures) (Kept.settled_quiet work (suc i.control.superstep) state (subst (λ n. IsFullStateAt work n state) later (at sure))) in
    let f = Kept.fresh_saving work honest (closed quiet i.control) told (Kept.fresh_closed work honest i.job.now i.control i.ids.items i.job_data quiet b run done truth) in
    let held = subst (λ m. IsHeldOf work.settings.parts m1 m state c.hold.result) e2 (subst (λ m. IsHeldOf work.settings.parts m c.hold.new.control state c.hold.result) e1 (subst (λ (own : Work). IsHeldOf own.settings.parts c.save_if_due.new.control c.hold.new.control state c.hold.result) b.job c.hold.ensures.held)) in
    let has = subst (λ (own : Work). HasIdsOf own state) b.job c.in-Ok.ensures.ids in
    let near : state.superstep ≡ m1.superstep = later ∙ sym (add-one i.control.superstep) ∙ sym (Kept.superstep_saving (closed quiet i.control) told) in
    rw (c.welcome.ensures, e2) (Kept.book_shut work honest i.job.now m1 (slicing sliced m1) i.ids.items c.hold.result quiet state g.J.Origin.lasts b.job b.knows f (Kept.fresh_slicing work honest m1 sliced f) near has at1
    (Kept.finished_saving i.control quiet told) c.is_quiet.ensures held)

pub returns : goal.returns
returns g c =
    let work = g.J.Origin.work in
    let honest = g.J.Origin.honest in
    let m = c.args.self.now in
    let i = c.self.inside in
    let x : AreParts work i.control c.into_parts-parts.result = subst (λ h. HoldsData work honest i.control h) (sym c.replace.ensures.value ∙ c.into_parts-parts.ensures) c.self.invariant.held in
    let state = c.in-Ok.state in
    let quiet = c.is_quiet.result in
    let told = c.save_if_due.ensures.told.0 in
    let sliced = has_room c.hold.result in
    let mc = closed quiet m in
    let m1 = saving told mc in
    let m2 = slicing sliced m1 in
    let same_step : i.control.superstep ≡ m.superstep = ap (λ (y : Machine). y.superstep) c.self.view_is in
    let later : state.superstep ≡ suc m.superstep = c.in-Ok.ensures.superstep ∙ ap (λ n. suc n) (x.superstep ∙ same_step) in
    let before : c.into_parts-parts.result.epoch ≤ m.epoch = subst (λ (y : Machine). c.into_parts-parts.result.epoch ≤ y.epoch) c.self.view_is x.epoch in
    let at = λ (sure : honest m.epoch ≡ true). subst (λ n. IsFullStateAt work n state) (sym c.in-Ok.ensures.superstep) (c.in-Ok.ensures.next (earlier honest g.J.Origin.lasts c.into_parts-parts.result.epoch m.epoch before sure)) in
    let loaded = λ (sure : honest 1 ≡ true). at (g.J.Origin.lasts 1 m.epoch (omega arith) sure) in
    let close : c.close.new.self ≡ mc = c.close.ensures ∙ ap (λ y. closed quiet y) c.self.view_is in
    let e1 : c.save_if_due.new.control ≡ m1 = c.save_if_due.ensures.told.1 ∙ ap (λ y. saving told y) close in
    let e2 : c.hold.new.control ≡ m2 = c.hold.ensures.control ∙ ap (λ y. slicing sliced y) e1 in
    let is : c.welcome.new.self ≡ welcomed m2 = c.welcome.ensures ∙ ap (λ y. welcomed y) e2 in
    let past : saved_or_first m.saved < state.superstep = let p = subst (λ (y : Machine). saved_or_first y.saved ≤ y.superstep) c.self.view_is c.self.invariant.past in omega (arith, p, later) in
    let near : state.superstep ≡ mc.superstep = later ∙ sym (add-one m.superstep) in
    let old : KeepsFor work honest (g.K.Keep.honest c.args.keep.now) (g.K.Keep.saved c.args.keep.now) (g.K.Keep.may_load c.args.keep.now) mc = Keeps.keeps_same work honest (g.K.Keep.honest c.args.keep.now) (g.K.Keep.saved c.args.keep.now) (g.K.Keep.may_load c.args.keep.now) m mc refl c.requires.keep in
    let saved = subst (λ y. is_saved_now y ≡ true → IsSaveResult state (g.K.Keep.honest c.args.keep.now) (g.K.Keep.honest c.save_if_due.new.keep) (g.K.Keep.saved c.args.keep.now) (g.K.Keep.saved c.save_if_due.new.keep) (g.K.Keep.may_load c.args.keep.now) (g.K.Keep.may_load c.save_if_due.new.keep) (g.K.Keep.faults c.args.keep.now) (g.K.Keep.faults c.save_if_due.new.keep) told) close c.save_if_due.ensures.told.2 in
    let other : is_saved_now mc ≡ false → KeepsFor work honest (g.K.Keep.honest c.save_if_due.new.keep) (g.K.Keep.saved c.save_if_due.new.keep) (g.K.Keep.may_load c.save_if_due.new.keep) mc × (g.K.Keep.saved c.save_if_due.new.keep ≡ g.K.Keep.saved c.args.keep.now) × LoadsNoMore (g.K.Keep.may_load c.args.keep.now) (g.K.Keep.may_load c.save_if_due.new.keep) = λ none.
    let same = c.save_if_due.ensures.same (rw close none) in
    (subst (λ kp. KeepsFor work honest (g.K.Keep.honest kp) (g.K.Keep.saved kp) (g.K.Keep.may_load kp) mc) (sym same) old, ap (λ kp. g.K.Keep.saved kp) same, λ bytes. subst (λ kp. g.K.Keep.may_load kp bytes → g.K.Keep.may_load c.args.keep.now bytes) (sym same) (λ may. may)) in
    let has = subst (λ (own : Work). HasIdsOf own state) c.self.invariant.job c.in-Ok.ensures.ids in
    let s = Keeps.saves work honest mc state (g.K.Keep.honest c.args.keep.now) (g.K.Keep.honest c.save_if_due.new.keep) (g.K.Keep.saved c.args.keep.now) (g.K.Keep.saved c.save_if_due.new.keep) (g.K.Keep.may_load c.args.keep.now) (g.K.Keep.may_load c.save_if_due.new.keep) (g.K.Keep.faults c.args.keep.now) (g.K.Keep.faults c.save_if_due.new.keep) told loaded has near past saved other old in
    let z = Keeps.saves_same work honest mc m1 c.welcome.new.self (g.K.Keep.honest c.args.keep.now) (g.K.Keep.honest c.save_if_due.new.keep) (g.K.Keep.saved c.args.keep.now) (g.K.Keep.saved c.save_if_due.new.keep) (g.K.Keep.may_load c.args.keep.now) (g.K.Keep.may_load c.save_if_due.new.keep) (g.K.Keep.faults c.args.keep.now) (g.K.Keep.faults c.save_if_due.new.keep) s
    (subst (λ y. Keeps.AreSame m1 y) (sym is) (Keeps.same_both m1 m2 (welcomed m2) (Keeps.slicing_same m1 sliced) (Keeps.welcomed_same m2))) in
    record {
      step = record {
        heard = record { quiet = quiet; merged = true; save = told; load = Good; sliced = sliced };
        quiet = λ sure next. subst (λ q. IsQuietAt work (suc m.superstep) q) (sym c.is_quiet.ensures) (Kept.settled_quiet work (suc m.superstep) state (subst (λ n. IsFullStateAt work n state) later (at sure)));
        machine = sym is;
        told = c.advanced_reply.ensures ∙ ap (λ y. reply_of (advanced y)) is;
      };
      keeps = z.keeps;
      cause = record { missed = z.missed; restarts = inl z.restarts };
      left = Keeps.saves_left work honest m mc c.welcome.new.self (g.K.Keep.honest c.args.keep.now) (g.K.Keep.honest c.save_if_due.new.keep) (g.K.Keep.saved c.args.keep.now) (g.K.Keep.saved c.save_if_due.new.keep) (g.K.Keep.may_load c.args.keep.now) (g.K.Keep.may_load c.save_if_due.new.keep) (g.K.Keep.faults c.args.keep.now) (g.K.Keep.faults c.save_if_due.new.keep) (z.superstep ∙ add-one m.superstep) z;
      loads = Keeps.saves_loads work honest m mc c.welcome.new.self (g.K.Keep.honest c.args.keep.now) (g.K.Keep.honest c.save_if_due.new.keep) (g.K.Keep.saved c.args.keep.now) (g.K.Keep.saved c.save_if_due.new.keep) (g.K.Keep.may_load c.args.keep.now) (g.K.Keep.may_load c.save_if_due.new.keep) (g.K.Keep.faults c.args.keep.now) (g.K.Keep.faults c.save_if_due.new.keep) (z.superstep ∙ add-one m.superstep) refl z;
    }
