-- What a worker sends for its tasks, one after another.
use Rattle.std.proofs.Common.{◌≡◌, ◌∙◌, ℕ, Bool, true, Option, Some, None, List, [], ◌∷◌, ◌++◌, map, append_assoc, ap, refl, sym, subst}
use mathlib.Core.List.{IsPrefix, append-nil, map-append}
use Rattle.superstep.specs.Job.{Work}
use Rattle.job_state.specs.Stamps.{DoneStamp, TaskStamp}
use Rattle.superstep.specs.Tasks.{AreUnitsAt}
use Rattle.superstep.specs.declared.task.Task.{Task}
use Rattle.control.specs.declared.control.Out.{Out}
use Rattle.control.specs.declared.event.Event.{Event}
use Rattle.control.specs.declared.event.Event.TheVariants as happened
use Rattle.control.specs.Stamps.{done_out, stamp_of, task_out}
use Rattle.control.specs.Events.{Stamp}
use Rattle.control.specs.Events.Stamp.{DoneBy, JoinedBy, LostBy}
use Rattle.hub_ends.specs.Orders.{coordinator, order_of, tasks_in}
use Rattle.hub_ends.specs.Protocol.{of}
use Rattle.hub_ends.specs.declared.order.Order.{Order}
use Rattle.hub_ends.specs.declared.order.Order.TheVariants.{Do, Stop}
use Rattle.hub_ends.proofs.Handed.{tasks-append}
use Rattle.hub_ends.specs.Passes.{handed_in_by, taken_by}
use Rattle.worker_loops.specs.Returns.{AreReturnsOf, IsReturnOf, IsWorkOn}
use Rattle.worker_loops.specs.Numbers.{outs_in, stamps_in}
use Rattle.worker_loops.specs.inside.Returning.{AddsReturn, AddsReturns, HasReturned}
use Rattle.hub_ends.specs.declared.message.Message.{Message}
use Rattle.hub_ends.specs.declared.message.Message.TheVariants as message
use Rattle.hub_ends.specs.declared.message.Sender.{Sender}
use Rattle.hub_ends.specs.declared.pass.WorkerReceipt.{WorkerReceipt}
use Rattle.control.proofs.Stamps.{done_same}
use Rattle.worker_loops.proofs.Numbers.{outs_task, stamps_bye, stamps_event}

module _ (work : Work) (honest : ℕ → Bool) where
  -- its result
  pub return_done : (w : ℕ) (task : TaskStamp) (done : DoneStamp) → done.epoch ≡ task.epoch → done.superstep ≡ task.superstep → done.part ≡ task.part
      → (honest task.epoch ≡ true → AreUnitsAt work task.superstep task.part done.units) → IsReturnOf work honest (task_out task) (DoneBy w (done_out done) done.units ∷ [])
  return_done w task done a b c units = (done_same done task a b c, units, refl)

  returns_more : (tasks : List Out) (stamps : List Stamp) (task : Out) (mine : List Stamp) → AreReturnsOf work honest tasks stamps → IsReturnOf work honest task mine
      → AreReturnsOf work honest (tasks ++ task ∷ []) (stamps ++ mine)
  returns_more [] stamps task mine old new = (mine, [], ap (λ l. l ++ mine) old ∙ sym (append-nil mine), new, refl)
  returns_more (x ∷ xs) stamps task mine old new =
      (old.0, old.1 ++ mine, ap (λ l. l ++ mine) old.2 ∙ append_assoc old.0 old.1 mine, old.3, returns_more xs old.1 task mine old.4 new)

module _ {J : Type 0} where
  -- what a worker took was no task
  pub order_stop : (order : Option (Task J)) → ((task : Task J) → order ≡ Some task → ⊥) → order_of {J = J} order ≡ Stop
  order_stop (Some task) none = absurd (none task refl)
  order_stop None none = refl

  outs_stop : (a : List (Order J)) → outs_in (a ++ Stop ∷ []) ≡ outs_in a
  outs_stop a = ap (map task_out) (tasks-append a (Stop ∷ []) ∙ append-nil (tasks_in a))

  all_of : (os : List (Order J)) → of coordinator 0 os ≡ os
  all_of [] = refl
  all_of (o ∷ os) = ap (λ l. o ∷ l) (all_of os)

  outs-append : (a b : List (Order J)) → outs_in (a ++ b) ≡ outs_in a ++ outs_in b
  outs-append a b = ap (map task_out) (tasks-append a b) ∙ map-append task_out (tasks_in a) (tasks_in b)

module _ {J : Type 0} (work : Work) (honest : ℕ → Bool) where
  -- ---- one task

  -- a task that is dropped
  pub return_none : (task : Out) (xs : List (Message J)) → AddsReturn work honest task xs xs
  return_none task xs = record { mine = []; added = sym (append-nil (stamps_in xs)); fits = tt }

  -- one event
  pub return_event : (task : Out) (xs ys : List (Message J)) (x : Event J) → ys ≡ xs ++ message.Event x ∷ [] → IsReturnOf work honest task (stamp_of x ∷ []) → AddsReturn work honest task xs ys
  return_event task xs ys x is fits = record { mine = stamp_of x ∷ []; added = ap stamps_in is ∙ stamps_event xs x; fits = fits }

  pub return_lost : (task : Out) (xs ys : List (Message J)) (w : ℕ) → ys ≡ xs ++ message.Event (happened.Lost w) ∷ [] → AddsReturn work honest task xs ys
  return_lost task xs ys w is = return_event task xs ys (happened.Lost w) is tt

  -- a loss, and the join after it
  pub return_joined : (task : Out) (xs ys zs : List (Message J)) (w : ℕ) → ys ≡ xs ++ message.Event (happened.Lost w) ∷ [] → zs ≡ ys ++ message.Event (happened.Joined w) ∷ []
      → AddsReturn work honest task xs zs
  return_joined task xs ys zs w is next = record {
    mine = LostBy w ∷ JoinedBy w ∷ [];
    added = ap stamps_in next ∙ stamps_event ys (happened.Joined w) ∙ ap (λ l. l ++ JoinedBy w ∷ []) (ap stamps_in is ∙ stamps_event xs (happened.Lost w))
        ∙ append_assoc (stamps_in xs) (LostBy w ∷ []) (JoinedBy w ∷ []);
    fits = refl;
  }

  -- ---- one task after another

  pub returns_none : (os : List (Order J)) (xs : List (Message J)) → AddsReturns work honest os os xs xs
  returns_none os xs = record {
    tasks = [];
    took = sym (append-nil (outs_in os));
    stamps = [];
    added = sym (append-nil (stamps_in xs));
    are = refl;
  }

  -- one task more, and what is sent for it
  pub returns_next : {o p q : List (Order J)} {x y y' z : List (Message J)} (task : Task J) → AddsReturns work honest o p x y → q ≡ p ++ Do task ∷ [] → y' ≡ y
      → AddsReturn work honest (task_out task) y' z → AddsReturns work honest o q x z
  returns_next {o = o} {p = p} {x = x} task old more same new = record {
    tasks = old.tasks ++ task_out task ∷ [];
    took = ap outs_in more ∙ outs_task p task ∙ ap (λ l. l ++ task_out task ∷ []) old.took ∙ append_assoc (outs_in o) old.tasks (task_out task ∷ []);
    stamps = old.stamps ++ new.mine;
    added = new.added ∙ ap (λ l. stamps_in l ++ new.mine) same ∙ ap (λ l. l ++ new.mine) old.added ∙ append_assoc (stamps_in x) old.stamps new.mine;
    are = returns_more work honest old.tasks old.stamps (task_out task) new.mine old.are new.fits;
  }

  -- the stop
  pub returns_stop : {o p q : List (Order J)} {x y z : List (Message J)} → AddsReturns work honest o p x y → q ≡ p ++ Stop ∷ [] → z ≡ y → AddsReturns work honest o q x z
  returns_stop {p = p} old stop same = record {
    tasks = old.tasks;
    took = ap outs_in stop ∙ outs_stop p ∙ old.took;
    stamps = old.stamps;
    added = ap stamps_in same ∙ old.added;
    are = old.are;
  }

  -- all that a worker took and sent, with the bye
  pub returns_all : (o p : List (Order J)) (x y z : List (Message J)) (sender : Sender) → o ≡ [] → x ≡ [] → AddsReturns work honest o p x y → z ≡ y ++ message.Bye sender ∷ []
      → AreReturnsOf work honest (outs_in p) (stamps_in z)
  returns_all o p x y z sender none silent a bye =
      let tasks : outs_in p ≡ a.tasks = a.took ∙ ap (λ l. outs_in l ++ a.tasks) none in
      let stamps : stamps_in z ≡ a.stamps = ap stamps_in bye ∙ stamps_bye y sender ∙ a.added ∙ ap (λ l. stamps_in l ++ a.stamps) silent in
      subst (λ l. AreReturnsOf work honest l (stamps_in z)) (sym tasks) (subst (λ l. AreReturnsOf work honest a.tasks l) (sym stamps) a.are)

  -- ---- receipts

  -- the receipt is another, but shows the same
  pub returned_same : (a b : WorkerReceipt J) → handed_in_by b ≡ handed_in_by a → taken_by b ≡ taken_by a → HasReturned work honest a → HasReturned work honest b
  returned_same a b sent took h =
      subst (λ l. AreReturnsOf work honest (outs_in l) (stamps_in (handed_in_by b))) (sym took)
      (subst (λ l. AreReturnsOf work honest (outs_in (taken_by a)) (stamps_in l)) (sym sent) h)

  -- the tasks that the worker took are the first ones of those that it was sent
  pub work_on : (receipt : WorkerReceipt J) (sent : List (Order J)) (stamps : List Stamp) → IsPrefix (of coordinator 0 (taken_by receipt)) sent → stamps ≡ stamps_in (handed_in_by receipt)
      → HasReturned work honest receipt → IsWorkOn work honest (outs_in sent) stamps
  work_on receipt sent stamps p is h = (
    outs_in (taken_by receipt),
    (outs_in p.0, sym (outs-append (taken_by receipt) p.0) ∙ ap (λ l. outs_in (l ++ p.0)) (sym (all_of (taken_by receipt))) ∙ ap outs_in p.1),
    subst (λ l. AreReturnsOf work honest (outs_in (taken_by receipt)) l) (sym is) h,
  )
