-- That no new epoch begins where nobody is lost.
use Rattle.std.proofs.lemmas.Bool.Decides.{eqb_tells, nat_tests}
use Rattle.std.specs.Prelude.{nat_lt, ◌==◌}
use Rattle.std.proofs.Common.{◌≡◌, ◌≢◌, ◌∙◌, ℕ, zero, suc, ◌+◌, ◌<◌, ◌≤◌, Bool, true, false, ◌&&◌, ◌||◌, cond, List, [], ◌∷◌, length, Result, Ok, Err, IfOk, eq-eqb, true≢false, ap, refl, sym, subst, arith, ◌⊎◌, ⊎_elim, inl, inr}
use Rattle.superstep.specs.Job.{Work}
use Rattle.job_state.specs.declared.fault.JobFault.{JobFault}
use Rattle.hub_ends.specs.Protocol.{of}
use Rattle.hub_ends.specs.declared.order.Order.{Order}
use Rattle.control.specs.declared.control.Out.{Out}
use Rattle.control.specs.declared.answer.Answer.{Answer}
use Rattle.control.specs.declared.answer.Answer.TheVariants.{Ended, Stale}
use Rattle.control.specs.declared.job_status.DeviceResult.{DeviceResult}
use Rattle.control.specs.declared.job_status.DeviceResult.TheVariants.{Failed, Good, NoMemory}
use Rattle.book.specs.declared.report.Report.{Report}
use Rattle.control.specs.Events.{Heard, Stamp, accepted, after_end, after_save, closing, done_step, is_known, on_event, saving, shut, slicing, stale_done, step}
use Rattle.control.specs.Events.Stamp.{DoneBy, FailedBy, JoinedBy, LostBy, Ticked}
use Rattle.control.specs.Machine.{Machine, all_set, charged, closed, count_set, counts, finished, freed, has_answer, handed, is_busy, is_out, is_running, is_saved_now, joined, welcomed}
use Rattle.hub_ends.specs.Hub.{HasByes, received, staff}
use Rattle.coordinator.specs.JobAnswers.{WhereEnded}
use Rattle.worker_loops.specs.Returns.{stamp_sender}
use Rattle.coordinator.specs.Steps.{Move, after, events}
use Rattle.worker_loops.specs.Numbers.{stamps_in}
use Rattle.coordinator.specs.Steps.Move.{Hand, Take}
use Rattle.worker_threads.specs.Threads.{AreSettled, IsSettledHub}
use Rattle.worker_loops.specs.inside.Epochs.{may_renew, renews}
use Rattle.worker_threads.specs.inside.Epochs.{AreSteady, IsSteadyHub}
use Rattle.coordinator.specs.inside.Told.{ToldFrom}
use Rattle.hub_ends.specs.declared.receipts.Receipts.{Receipts}
use Rattle.hub_ends.specs.declared.coordinator_ends.CoordinatorEnds.{CoordinatorEnds}
use Rattle.hub_ends.specs.declared.pass.WorkerReceipt.{WorkerReceipt}
use Rattle.coordinator.proofs.Ending.{answers_report}
use Rattle.workers.proofs.Joins.{events_of_sender}

-- ---- one event of the control model

-- the epoch, and who is alive and who waits
abbrev Standing : Type 0
Standing = ℕ × List Bool × List Bool

abbrev standing : Machine → Standing
standing m = (m.epoch, m.alive, m.waiting)

chosen : (b : Bool) (m n : Machine) (a : Standing) → standing m ≡ a → standing n ≡ a → standing (cond b m n) ≡ a
chosen true m n a p q = p
chosen false m n a p q = q

chosen_pair : (b : Bool) (m n : Machine × Answer) (a : Standing) → standing m.0 ≡ a → standing n.0 ≡ a → standing (cond b m n).0 ≡ a
chosen_pair true m n a p q = p
chosen_pair false m n a p q = q

after_save_stands : (told : DeviceResult) (m : Machine) → standing (after_save told m) ≡ standing m
after_save_stands Good m = refl
after_save_stands Failed m = refl
after_save_stands NoMemory m = refl

saving_stands : (told : DeviceResult) (m : Machine) → standing (saving told m) ≡ standing m
saving_stands told m = chosen (is_saved_now m) (after_save told m) m (standing m) (after_save_stands told m) refl

slicing_stands : (sliced : Bool) (m : Machine) → standing (slicing sliced m) ≡ standing m
slicing_stands sliced m = chosen _ _ m (standing m) refl refl

and_none : (b : Bool) → (b && false) ≡ false
and_none true = refl
and_none false = refl

-- nobody waits
welcomed_stands : (m : Machine) → count_set m.waiting ≡ 0 → standing (welcomed m) ≡ standing m
welcomed_stands m none =
    ap (λ (k : ℕ). standing (cond (is_running m.ending && nat_lt 0 k) (record (joined m) { epoch = m.epoch + 1 }) m)) none
    ∙ ap (λ b. standing (cond b (record (joined m) { epoch = m.epoch + 1 }) m)) (and_none (is_running m.ending))

shut_stands : (heard : Heard) (m : Machine) → count_set m.waiting ≡ 0 → standing (shut heard m).0 ≡ standing m
shut_stands heard m none =
    let begun = closed heard.quiet m in
    let saves = saving heard.save begun in
    let sliced = slicing heard.sliced saves in
    let same : standing sliced ≡ standing m = slicing_stands heard.sliced saves ∙ saving_stands heard.save begun in
    chosen_pair heard.merged _ _ (standing m) (welcomed_stands sliced (ap (λ (a : Standing). count_set a.2) same ∙ none) ∙ same) refl

closing_stands : (heard : Heard) (m : Machine) → count_set m.waiting ≡ 0 → standing (closing heard m).0 ≡ standing m
closing_stands heard m none = chosen_pair (all_set m.done) _ _ (standing m) (shut_stands heard m none) refl

stale_stands : (m : Machine) (w : ℕ) (task : Out) → standing (stale_done m w task) ≡ standing m
stale_stands m w task = chosen (is_out m w task) (freed m w) m (standing m) refl refl

done_stands : (heard : Heard) (m : Machine) (w : ℕ) (task : Out) → count_set m.waiting ≡ 0 → standing (done_step heard m w task).0 ≡ standing m
done_stands heard m w task none =
    chosen_pair (counts m w task) _ _ (standing m) (closing_stands heard (finished (freed m w) task.part) none) (stale_stands m w task)

step_stands : (heard : Heard) (m : Machine) (stamp : Stamp) → count_set m.waiting ≡ 0 → may_renew stamp ≡ false → standing (step heard m stamp).0 ≡ standing m
step_stands heard m (DoneBy w task units) none h = done_stands heard (charged m w units) w task none
step_stands heard m (FailedBy w place) none h = chosen_pair (is_busy m.alive m.out w) _ _ (standing m) refl refl
step_stands heard m (LostBy w) none h = absurd (true≢false h)
step_stands heard m (JoinedBy w) none h = absurd (true≢false h)
step_stands heard m Ticked none h = absurd (true≢false h)

known_stands : (heard : Heard) (m : Machine) (stamp : Stamp) (b : Bool) → count_set m.waiting ≡ 0 → (b ≡ true → may_renew stamp ≡ false)
    → standing (cond b (step heard m stamp) (m, Stale)).0 ≡ standing m
known_stands heard m stamp true none h = step_stands heard m stamp none (h refl)
known_stands heard m stamp false none h = refl

end_stands : (m : Machine) (stamp : Stamp) → standing (after_end m stamp) ≡ standing m
end_stands m (DoneBy w task units) = chosen (has_answer m.ending && nat_lt w (length m.alive)) (charged m w units) m (standing m) refl refl
end_stands m (FailedBy w place) = refl
end_stands m (LostBy w) = refl
end_stands m (JoinedBy w) = refl
end_stands m Ticked = refl

accepted_stands : (heard : Heard) (m : Machine) (stamp : Stamp) → count_set m.waiting ≡ 0 → (is_known (length m.alive) stamp ≡ true → may_renew stamp ≡ false)
    → standing (accepted heard m stamp).0 ≡ standing m
accepted_stands heard m stamp none h =
    chosen_pair (is_running m.ending) (on_event heard m stamp) (after_end m stamp, Ended) (standing m)
    (known_stands heard m stamp (is_known (length m.alive) stamp) none h)
    (end_stands m stamp)

-- ---- a list of hands and events

-- each event of one of this many workers, or of the ticker, leaves the epoch as it is
abbrev AreCalm : ℕ → List Stamp → Type 0
AreCalm n [] = Unit {0}
AreCalm n (stamp ∷ stamps) = (is_known n stamp ≡ true → may_renew stamp ≡ false) × AreCalm n stamps

epoch_stays : (n : ℕ) (moves : List Move) (m : Machine) → length m.alive ≡ n → count_set m.waiting ≡ 0 → AreCalm n (events moves) → (after m moves).epoch ≡ m.epoch
epoch_stays n [] m width none calm = refl
epoch_stays n (Hand w task ∷ moves) m width none calm = epoch_stays n moves (handed m w task.part) width none calm
epoch_stays n (Take heard stamp ∷ moves) m width none calm =
    let same : standing (accepted heard m stamp).0 ≡ standing m = accepted_stands heard m stamp none (λ k. calm.0 (subst (λ (i : ℕ). is_known i stamp ≡ true) width k)) in
    epoch_stays n moves (accepted heard m stamp).0 (ap (λ (a : Standing). length a.1) same ∙ width) (ap (λ (a : Standing). count_set a.2) same ∙ none) calm.1
    ∙ ap (λ (a : Standing). a.0) same

-- ---- what all threads sent

below : (w n : ℕ) → nat_lt w n ≡ true → w < n
below w n h = grind (arith, nat_tests)

next_below : (w n : ℕ) → nat_lt w n ≡ true → w + 1 < n + 1
next_below w n h = let z = below w n h in omega (arith, z)

known_sender : (n : ℕ) (stamp : Stamp) → is_known n stamp ≡ true → stamp_sender stamp < n + 1
known_sender n (DoneBy w task units) h = next_below w n h
known_sender n (FailedBy w place) h = next_below w n h
known_sender n (LostBy w) h = next_below w n h
known_sender n (JoinedBy w) h = next_below w n h
known_sender n Ticked h = omega arith

or_parts : (a b : Bool) → (a || b) ≡ false → (a ≡ false) × (b ≡ false)
or_parts true b h = absurd (true≢false h)
or_parts false b h = (refl, h)

rest_renews : (b : Bool) (s : Stamp) (rest : List Stamp) → renews (cond b (s ∷ rest) rest) ≡ false → renews rest ≡ false
rest_renews true s rest h = (or_parts (may_renew s) (renews rest) h).1
rest_renews false s rest h = h

head_renews : (b : Bool) (s : Stamp) (rest : List Stamp) → b ≡ true → renews (cond b (s ∷ rest) rest) ≡ false → may_renew s ≡ false
head_renews true s rest e h = (or_parts (may_renew s) (renews rest) h).0
head_renews false s rest e h = absurd (true≢false (sym e))

calm_of : (n : ℕ) (stamps : List Stamp) → ((p : ℕ) → p < n + 1 → renews (of stamp_sender p stamps) ≡ false) → AreCalm n stamps
calm_of n [] h = tt
calm_of n (s ∷ ss) h = (
  (λ known.
      let p = stamp_sender s in
      head_renews (p == p) s (of stamp_sender p ss) (eq-eqb p p refl) (h p (known_sender n s known))),
  calm_of n ss (λ p k. rest_renews (stamp_sender s == p) s (of stamp_sender p ss) (h p k)),
)

either_way : (n w : ℕ) → (n ≡ w) ⊎ (n ≢ w)
either_way n w = ⊎_elim (λ x. inl x.1) (λ x. inr x.1) (eqb_tells n w)

module _ {J : Type 0} where
  worker_steady : (ends : CoordinatorEnds J) (n : ℕ) (rs : List (WorkerReceipt J)) → AreSettled ends n rs → AreSteady rs → HasByes (staff ends) (received ends) → n + length rs ≡ staff ends
      → (w : ℕ) → n ≤ w → w < staff ends → (n ≡ w) ⊎ (n ≢ w) → renews (of stamp_sender (w + 1) (stamps_in (received ends))) ≡ false
  worker_steady ends n [] s calm byes all w low high which = absurd (omega (arith, all, low, high))
  worker_steady ends n (r ∷ rs) s calm byes all w low high (inl e) =
      let whole = s.0.events.whole (byes (n + 1) (omega (arith, e, high))) in
      subst (λ (k : ℕ). renews (of stamp_sender (k + 1) (stamps_in (received ends))) ≡ false) e
      (ap renews (events_of_sender (n + 1) (received ends) ∙ ap stamps_in whole) ∙ calm.0)
  worker_steady ends n (r ∷ rs) s calm byes all w low high (inr e) =
      worker_steady ends (n + 1) rs s.2 calm.1 byes (omega (arith, all)) w (omega (arith, low, e)) high (either_way (n + 1) w)

  sender_steady : (ends : CoordinatorEnds J) (receipts : Receipts J) → IsSettledHub ends receipts → IsSteadyHub receipts → HasByes (staff ends) (received ends)
      → (p : ℕ) → p < staff ends + 1 → renews (of stamp_sender p (stamps_in (received ends))) ≡ false
  sender_steady ends receipts s calm byes zero low =
      ap renews (events_of_sender 0 (received ends) ∙ ap stamps_in (s.ticker.events.whole (byes 0 low))) ∙ calm.ticker
  sender_steady ends receipts s calm byes (suc w) low =
      let all : 0 + length receipts.workers.items ≡ staff ends = omega (arith, s.all, receipts.workers.ok.0) in
      let next : w + 1 ≡ suc w = omega arith in
      subst (λ (p : ℕ). renews (of stamp_sender p (stamps_in (received ends))) ≡ false) next
      (worker_steady ends 0 receipts.workers.items s.workers calm.workers byes all w (omega arith) (omega (arith, low)) (either_way 0 w))

  -- the job ends in the epoch in which it began
  pub epoch_told : (work : Work) (honest : ℕ → Bool) (first : Machine) (ends : CoordinatorEnds J) (handed : List (List (Order J))) (receipts : Receipts J) (told : List (List Bool)) (r : Result Report JobFault)
      → IsSettledHub ends receipts → IsSteadyHub receipts → length first.alive ≡ staff ends → count_set first.waiting ≡ 0
      → WhereEnded r (ToldFrom work honest first (received ends) handed told r) → WhereEnded r (HasByes (staff ends) (received ends))
      → IfOk r (λ report. report.epoch ≡ first.epoch)
  epoch_told work honest first ends handed receipts told (Ok report) s calm width none t byes =
      let ran = t.ran in
      let senders = sender_steady ends receipts s calm byes in
      let stamps : AreCalm (staff ends) (events ran.moves) = subst (λ l. AreCalm (staff ends) l) ran.took (calm_of (staff ends) (stamps_in (received ends)) senders) in
      (answers_report work honest ran.end ran.end.ending report ran.answers).1.epoch
      ∙ ap (λ (m : Machine). m.epoch) (sym ran.leads) ∙ epoch_stays (staff ends) ran.moves first width none stamps
  epoch_told work honest first ends handed receipts told (Err fault) s calm width none t byes = tt

pub epoch_none : (r : Result Report JobFault) (n : ℕ) → n ≡ 0 → IfOk r (λ report. report.epoch ≡ n) → IfOk r (λ report. report.epoch ≡ 0)
epoch_none (Ok report) n none is = is ∙ none
epoch_none (Err fault) n none is = tt
