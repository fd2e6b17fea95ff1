-- Workers join only after losses that were counted.
use Rattle.std.proofs.Common.{◌≡◌, ◌≢◌, ◌∙◌, ℕ, ◌+◌, ◌<◌, ◌≤◌, Bool, true, false, cond, List, [], ◌∷◌, length, Result, ap, refl, sym, subst, arith, ◌⊎◌, inl, inr}
use Rattle.std.specs.Prelude.{◌==◌}
use Rattle.superstep.specs.Job.{Work}
use Rattle.job_state.specs.declared.fault.JobFault.{JobFault}
use Rattle.control.specs.declared.event.Event.{Event}
use Rattle.control.specs.declared.event.Event.TheVariants as happened
use Rattle.book.specs.declared.report.Report.{Report}
use Rattle.control.specs.Stamps.{stamp_of}
use Rattle.control.specs.Machine.{Machine}
use Rattle.hub_ends.specs.Orders.{at}
use Rattle.hub_ends.specs.Protocol.{of}
use Rattle.hub_ends.specs.Hub.{HasByes, handed, received, staff}
use Rattle.coordinator.specs.Joining.{JoinedFrom}
use Rattle.worker_loops.specs.Counted.{joins_counted}
use Rattle.hub_ends.specs.Messages.{event_sender, sender_number, sender_of}
use Rattle.hub_ends.specs.Passes.{handed_in_by}
use Rattle.worker_loops.specs.Returns.{IsWorkOn, events_by, stamp_sender}
use Rattle.coordinator.specs.Steps.{events}
use Rattle.worker_loops.specs.Numbers.{outs_in, stamps_in}
use Rattle.worker_threads.specs.Threads.{AreSettled, IsSettledHub}
use Rattle.hub_ends.specs.Verdicts.{told_to}
use Rattle.worker_threads.specs.inside.Joins.{AreJoined}
use Rattle.coordinator.specs.inside.Told.{ToldFrom}
use Rattle.hub_ends.specs.declared.receipts.Receipts.{Receipts}
use Rattle.hub_ends.specs.declared.coordinator_ends.CoordinatorEnds.{CoordinatorEnds}
use Rattle.hub_ends.specs.declared.message.Message.{Message}
use Rattle.hub_ends.specs.declared.message.Message.TheVariants as message
use Rattle.hub_ends.specs.declared.message.Sender.{Sender}
use Rattle.hub_ends.specs.declared.pass.WorkerReceipt.{WorkerReceipt}
use Rattle.worker_loops.proofs.Returning.{work_on}
use Rattle.coordinator.proofs.Telling.{either_way}

module _ {J : Type 0} where
  same_sender : (x : Event J) → stamp_sender (stamp_of x) ≡ event_sender x
  same_sender (happened.Done w done) = refl
  same_sender (happened.Failed w place) = refl
  same_sender (happened.Lost w) = refl
  same_sender (happened.Joined w) = refl
  same_sender happened.Tick = refl

  event_kept : (b : Bool) (x : Event J) (xs : List (Message J)) → cond b (stamp_of x ∷ stamps_in xs) (stamps_in xs) ≡ stamps_in (cond b (message.Event x ∷ xs) xs)
  event_kept true x xs = refl
  event_kept false x xs = refl

  bye_kept : (b : Bool) (sender : Sender) (xs : List (Message J)) → stamps_in xs ≡ stamps_in (cond b (message.Bye sender ∷ xs) xs)
  bye_kept true sender xs = refl
  bye_kept false sender xs = refl

  -- a worker's events are those in its messages
  pub events_of_sender : (p : ℕ) (xs : List (Message J)) → of stamp_sender p (stamps_in xs) ≡ stamps_in (of sender_of p xs)
  events_of_sender p [] = refl
  events_of_sender p (message.Event x ∷ xs) =
      ap (λ (n : ℕ). cond (n == p) (stamp_of x ∷ of stamp_sender p (stamps_in xs)) (of stamp_sender p (stamps_in xs))) (same_sender x)
      ∙ ap (λ l. cond (event_sender x == p) (stamp_of x ∷ l) l) (events_of_sender p xs)
      ∙ event_kept (event_sender x == p) x (of sender_of p xs)
  events_of_sender p (message.Bye sender ∷ xs) = events_of_sender p xs ∙ bye_kept (sender_number sender == p) sender (of sender_of p xs)

  joined_at : (work : Work) (honest : ℕ → Bool) (ends : CoordinatorEnds J) (told : List (List Bool)) (n : ℕ) (rs : List (WorkerReceipt J)) → AreSettled ends n rs → AreJoined work honest told n rs → HasByes (staff ends) (received ends)
      → n + length rs ≡ staff ends → (w : ℕ) → n ≤ w → w < staff ends → (n ≡ w) ⊎ (n ≢ w) → joins_counted false (told_to told w) (events_by w (stamps_in (received ends))) ≡ true
  joined_at work honest ends told n [] s j byes all w low high which = absurd (omega (arith, all, low, high))
  joined_at work honest ends told n (r ∷ rs) s j byes all w low high (inl e) =
      let whole : of sender_of (n + 1) (received ends) ≡ handed_in_by r = s.0.events.whole (byes (n + 1) (omega (arith, e, high))) in
      subst (λ (k : ℕ). joins_counted false (told_to told k) (events_by k (stamps_in (received ends))) ≡ true) e
      (ap (λ l. joins_counted false (told_to told n) l) (events_of_sender (n + 1) (received ends) ∙ ap stamps_in whole) ∙ j.0)
  joined_at work honest ends told n (r ∷ rs) s j byes all w low high (inr e) =
      joined_at work honest ends told (n + 1) rs s.2 j.2 byes (omega (arith, all)) w (omega (arith, low, e)) high (either_way (n + 1) w)

  worked_at : (work : Work) (honest : ℕ → Bool) (ends : CoordinatorEnds J) (told : List (List Bool)) (n : ℕ) (rs : List (WorkerReceipt J)) → AreSettled ends n rs → AreJoined work honest told n rs
      → HasByes (staff ends) (received ends) → n + length rs ≡ staff ends → (w : ℕ) → n ≤ w → w < staff ends → (n ≡ w) ⊎ (n ≢ w)
      → IsWorkOn work honest (outs_in (at (handed ends) w)) (events_by w (stamps_in (received ends)))
  worked_at work honest ends told n [] s j byes all w low high which = absurd (omega (arith, all, low, high))
  worked_at work honest ends told n (r ∷ rs) s j byes all w low high (inl e) =
      let whole : of sender_of (n + 1) (received ends) ≡ handed_in_by r = s.0.events.whole (byes (n + 1) (omega (arith, e, high))) in
      subst (λ (k : ℕ). IsWorkOn work honest (outs_in (at (handed ends) k)) (events_by k (stamps_in (received ends)))) e
      (work_on work honest r (at (handed ends) n) (events_by n (stamps_in (received ends))) s.0.tasks.begins (events_of_sender (n + 1) (received ends) ∙ ap stamps_in whole) j.1)
  worked_at work honest ends told n (r ∷ rs) s j byes all w low high (inr e) =
      worked_at work honest ends told (n + 1) rs s.2 j.2 byes (omega (arith, all)) w (omega (arith, low, e)) high (either_way (n + 1) w)

  pub joined_from : (work : Work) (honest : ℕ → Bool) (first : Machine) (ends : CoordinatorEnds J) (receipts : Receipts J) (told : List (List Bool)) (r : Result Report JobFault)
      → IsSettledHub ends receipts → AreJoined work honest told 0 receipts.workers.items → staff ends ≡ work.settings.workers → length told ≡ staff ends
      → ToldFrom work honest first (received ends) (handed ends) told r → HasByes (staff ends) (received ends) → JoinedFrom work honest first (received ends) (handed ends) r
  joined_from work honest first ends receipts told r s j many wide t byes = record {
    ran = t.ran;
    joins = λ w h.
        let here : w < staff ends = subst (λ (n : ℕ). w < n) (sym many) h in
        let heard : w < length told = subst (λ (n : ℕ). w < n) (sym wide) here in
        let all : 0 + length receipts.workers.items ≡ staff ends = omega (arith, s.all, receipts.workers.ok.0) in
        ap (λ l. joins_counted false l (events_by w (events t.ran.moves))) (sym (t.told_is w heard))
        ∙ ap (λ l. joins_counted false (told_to told w) (events_by w l)) (sym t.ran.took)
        ∙ joined_at work honest ends told 0 receipts.workers.items s.workers j byes all w (omega arith) here (either_way 0 w);
    returns = λ w h.
        let here : w < staff ends = subst (λ (n : ℕ). w < n) (sym many) h in
        let all : 0 + length receipts.workers.items ≡ staff ends = omega (arith, s.all, receipts.workers.ok.0) in
        subst (λ l. IsWorkOn work honest l (events_by w (events t.ran.moves))) (t.ran.gave w h)
        (subst (λ l. IsWorkOn work honest (outs_in (at (handed ends) w)) (events_by w l)) t.ran.took
        (worked_at work honest ends told 0 receipts.workers.items s.workers j byes all w (omega arith) here (either_way 0 w)));
  }
