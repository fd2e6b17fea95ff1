-- The units that were received of a worker are those that it handed in.
use Rattle.std.proofs.lemmas.Bool.Decides.{eqb_tells}
use Rattle.std.proofs.Common.{◌≡◌, ◌≢◌, ℕ, ◌+◌, ◌<◌, List, [], ◌∷◌, Result, Ok, Err, IfOk, Option, Some, None, cond, eq-eqb, ne_eqb, refl, sym, ap, ◌∙◌, arith, ◌⊎◌, ⊎_elim, inl, inr, length}
use Rattle.job_state.specs.declared.fault.JobFault.{JobFault}
use Rattle.control.specs.declared.event.Event.{Event}
use Rattle.control.specs.declared.event.Event.TheVariants as event
use Rattle.book.specs.declared.report.Report.{Report}
use Rattle.control.specs.Stamps.{stamp_of}
use Rattle.coordinator.specs.JobAnswers.{HasSpent, WhereEnded}
use Rattle.hub_ends.specs.Hub.{HasByes, received, staff}
use Rattle.hub_ends.specs.Messages.{event_sender, sender_of}
use Rattle.hub_ends.specs.Passes.{handed_in_by}
use Rattle.hub_ends.specs.Protocol.{of}
use Rattle.worker_loops.specs.Numbers.{stamps_in}
use Rattle.workers.specs.Charges.{AreCharged, HasHandedIn}
use Rattle.worker_threads.specs.Threads.{AreSettled, HasSettled, IsSettledHub}
use Rattle.coordinator.specs.Units.{cut, units_by, units_of}
use Rattle.hub_ends.specs.declared.receipts.Receipts.{Receipts}
use Rattle.hub_ends.specs.declared.coordinator_ends.CoordinatorEnds.{CoordinatorEnds}
use Rattle.hub_ends.specs.declared.message.Message.{Message}
use Rattle.hub_ends.specs.declared.message.Message.TheVariants as message
use Rattle.hub_ends.specs.declared.pass.WorkerReceipt.{WorkerReceipt}

none_more : (n : ℕ) → n ≡ 0 + n
none_more n = omega arith

module _ {J : Type 0} where
  -- what one message brings of worker w
  abbrev units_here : ℕ → Message J → ℕ
  units_here w (message.Event event) = units_of w (stamp_of event)
  units_here w (message.Bye sender) = 0

  units_step : (w : ℕ) (m : Message J) (ms : List (Message J)) → units_by w (stamps_in (m ∷ ms)) ≡ units_here w m + units_by w (stamps_in ms)
  units_step w (message.Event event) ms = refl
  units_step w (message.Bye sender) ms = none_more (units_by w (stamps_in ms))

  event_else : (w : ℕ) (x : Event J) → event_sender x ≢ w + 1 → units_of w (stamp_of x) ≡ 0
  event_else w (event.Done v done) n = ap (λ b. cond b done.units 0) (ne_eqb v w (λ e. n (ap (λ k. k + 1) e)))
  event_else w (event.Failed v place) n = refl
  event_else w (event.Lost v) n = refl
  event_else w (event.Joined v) n = refl
  event_else w event.Tick n = refl

  units_else : (w : ℕ) (m : Message J) → sender_of m ≢ w + 1 → units_here w m ≡ 0
  units_else w (message.Event event) n = event_else w event n
  units_else w (message.Bye sender) n = refl

  of_step : (w : ℕ) (m : Message J) (ms : List (Message J)) → (sender_of m ≡ w + 1) ⊎ (sender_of m ≢ w + 1)
      → units_by w (stamps_in (of sender_of (w + 1) (m ∷ ms))) ≡ units_here w m + units_by w (stamps_in (of sender_of (w + 1) ms))
  of_step w m ms (inl e) =
      ap (λ b. units_by w (stamps_in (cond b (m ∷ of sender_of (w + 1) ms) (of sender_of (w + 1) ms)))) (eq-eqb (sender_of m) (w + 1) e)
      ∙ units_step w m (of sender_of (w + 1) ms)
  of_step w m ms (inr n) =
      ap (λ b. units_by w (stamps_in (cond b (m ∷ of sender_of (w + 1) ms) (of sender_of (w + 1) ms)))) (ne_eqb (sender_of m) (w + 1) n)
      ∙ none_more (units_by w (stamps_in (of sender_of (w + 1) ms)))
      ∙ ap (λ k. k + units_by w (stamps_in (of sender_of (w + 1) ms))) (sym (units_else w m n))

  units_of_sender : (w : ℕ) (ms : List (Message J)) → units_by w (stamps_in ms) ≡ units_by w (stamps_in (of sender_of (w + 1) ms))
  units_of_sender w [] = refl
  units_of_sender w (m ∷ ms) =
      units_step w m ms ∙ ap (λ k. units_here w m + k) (units_of_sender w ms)
      ∙ sym (of_step w m ms (⊎_elim (λ x. inl x.1) (λ x. inr x.1) (eqb_tells (sender_of m) (w + 1))))

  -- the receipts of the workers from w on
  charged : (ends : CoordinatorEnds J) (report : Report) (w : ℕ) (rs : List (WorkerReceipt J)) → HasByes (staff ends) (received ends) → HasSpent (staff ends) (received ends) report
      → AreSettled ends w rs → w + length rs ≡ staff ends → AreCharged report w rs
  charged ends report w [] byes spent old all = tt
  charged ends report w (r ∷ rs) byes spent old all =
      let here : w < staff ends = omega arith in
      let whole : of sender_of (w + 1) (received ends) ≡ handed_in_by r = old.0.events.whole (byes (w + 1) (omega arith)) in (
        spent w here ∙ ap cut (units_of_sender w (received ends) ∙ ap (λ l. units_by w (stamps_in l)) whole),
        charged ends report (w + 1) rs byes spent old.2 (omega arith),
      )

  handed_in_some : (ends : CoordinatorEnds J) (receipts : Receipts J) (report : Report) → IsSettledHub ends receipts → HasByes (staff ends) (received ends)
      → HasSpent (staff ends) (received ends) report → AreCharged report 0 receipts.workers.items
  handed_in_some ends receipts report s byes spent = charged ends report 0 receipts.workers.items byes spent s.workers (omega (arith, s.all, receipts.workers.ok.0))

  handed_in_ok : (ends : CoordinatorEnds J) (receipts : Option (Receipts J)) (report : Report) → HasSettled ends receipts → HasByes (staff ends) (received ends)
      → HasSpent (staff ends) (received ends) report → HasHandedIn receipts report
  handed_in_ok ends (Some receipts) report s byes spent = handed_in_some ends receipts report s byes spent
  handed_in_ok ends None report s byes spent = absurd s

  pub handed_in : (ends : CoordinatorEnds J) (receipts : Option (Receipts J)) (r : Result Report JobFault) → WhereEnded r (HasSettled ends receipts) → WhereEnded r (HasByes (staff ends) (received ends))
      → IfOk r (HasSpent (staff ends) (received ends)) → IfOk r (HasHandedIn receipts)
  handed_in ends receipts (Ok report) s byes spent = handed_in_ok ends receipts report s byes spent
  handed_in ends receipts (Err fault) s byes spent = tt
