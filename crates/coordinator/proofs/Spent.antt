-- What the control model adds up of each worker, in one event.
use Rattle.std.proofs.lemmas.Bool.Decides.{eqb_tells, nat_tests}
use Rattle.std.specs.Prelude.{nat_lt}
use Rattle.std.proofs.Common.{◌≡◌, ◌≢◌, ℕ, zero, suc, ◌+◌, ◌-◌, ◌<◌, ◌≤◌, ◌^◌, min, Bool, true, false, ◌&&◌, not, cond, eqb, true≢false, Option, Some, None, List, [], ◌∷◌, length, set, slice_index_or, sym, refl, ap, ◌∙◌, subst, arith, eq-eqb, ne_eqb, ◌⊎◌, ⊎_elim, inl, inr}
use Rattle.job_state.specs.declared.fault.Place.{Place}
use Rattle.control.specs.declared.control.Out.{Out}
use Rattle.control.specs.declared.job_status.JobStatus.{JobStatus}
use Rattle.control.specs.declared.job_status.JobStatus.TheVariants.{Fault, Finished, Limit, Running}
use Rattle.control.specs.declared.job_status.DeviceResult.{DeviceResult}
use Rattle.control.specs.declared.job_status.DeviceResult.TheVariants.{Failed, Good, NoMemory}
use Rattle.control.specs.declared.answer.Answer.{Answer}
use Rattle.control.specs.declared.answer.Answer.TheVariants.{Ended, Stale}
use Rattle.control.specs.Machine.{Machine, aged, all_set, charged, closed, counts, expired, finished, freed, has_answer, is_alive, is_busy, is_out, is_running, is_saved_now, joined, lost, may_join, welcomed}
use Rattle.control.specs.Events.{Heard, Stamp, accepted, after_end, after_load, after_loss, after_save, closing, done_step, failed_step, on_event, joined_step, loading, loss, lost_step, rolling, saving, shut, slicing, stale_done, tick_step}
use Rattle.control.specs.Events.Stamp.{DoneBy, FailedBy, JoinedBy, LostBy, Ticked}
use Rattle.control.proofs.ByPlace.{length-by_place}
use Rattle.coordinator.specs.Units.{cut, units_by, units_of}

-- the accounts, and how many workers there are
abbrev pub Account : Type 0
Account = List ℕ × ℕ

abbrev pub account : Machine → Account
account m = (m.spent, length m.alive)

-- ---- lists of the same length

length_set : {A : Type 0} (xs : List A) (w : ℕ) (x : A) → length (set xs w x) ≡ length xs
length_set [] w x = refl
length_set (y ∷ ys) zero x = refl
length_set (y ∷ ys) (suc w) x = ap suc (length_set ys w x)

as_long : (m : Machine) (n : ℕ) → n ≡ length m.alive → (m.spent, n) ≡ account m
as_long m n e = ap (λ (k : ℕ). (m.spent, k)) e

joined_account : (m : Machine) → account (joined m) ≡ account m
joined_account m = as_long m (length (joined m).alive) (length-by_place _ 0 m.alive)

expired_account : (m : Machine) → account (expired m) ≡ account m
expired_account m = as_long m (length (expired m).alive) (length-by_place _ 0 m.alive)

lost_account : (m : Machine) (w : ℕ) → account (lost m w) ≡ account m
lost_account m w = as_long m (length (lost m w).alive) (length_set m.alive w false)

-- ---- the steps of the machine

-- whichever is chosen
chosen : (b : Bool) (m n : Machine) (a : Account) → account m ≡ a → account n ≡ a → account (cond b m n) ≡ a
chosen true m n a p q = p
chosen false m n a p q = q

chosen_pair : (b : Bool) (m n : Machine × Answer) (a : Account) → account m.0 ≡ a → account n.0 ≡ a → account (cond b m n).0 ≡ a
chosen_pair true m n a p q = p
chosen_pair false m n a p q = q

after_save_account : (told : DeviceResult) (m : Machine) → account (after_save told m) ≡ account m
after_save_account Good m = refl
after_save_account Failed m = refl
after_save_account NoMemory m = refl

saving_account : (told : DeviceResult) (m : Machine) → account (saving told m) ≡ account m
saving_account told m = chosen (is_saved_now m) (after_save told m) m (account m) (after_save_account told m) refl

slicing_account : (sliced : Bool) (m : Machine) → account (slicing sliced m) ≡ account m
slicing_account sliced m = chosen (is_running m.ending && not sliced) _ m (account m) refl refl

welcomed_account : (m : Machine) → account (welcomed m) ≡ account m
welcomed_account m = chosen _ _ m (account m) (joined_account m) refl

shut_account : (heard : Heard) (m : Machine) → account (shut heard m).0 ≡ account m
shut_account heard m =
    let saves = saving heard.save (closed heard.quiet m) in
    let sliced = slicing heard.sliced saves in
    chosen_pair heard.merged _ _ (account m)
    (welcomed_account sliced ∙ slicing_account heard.sliced saves ∙ saving_account heard.save (closed heard.quiet m))
    refl

closing_account : (heard : Heard) (m : Machine) → account (closing heard m).0 ≡ account m
closing_account heard m = chosen_pair (all_set m.done) _ _ (account m) (shut_account heard m) refl

stale_account : (m : Machine) (w : ℕ) (task : Out) → account (stale_done m w task) ≡ account m
stale_account m w task = chosen (is_out m w task) (freed m w) m (account m) refl refl

done_account : (heard : Heard) (m : Machine) (w : ℕ) (task : Out) → account (done_step heard m w task).0 ≡ account m
done_account heard m w task =
    chosen_pair (counts m w task) _ _ (account m) (closing_account heard (finished (freed m w) task.part)) (stale_account m w task)

after_loss_account : (m : Machine) → account (after_loss m) ≡ account m
after_loss_account m = chosen _ _ _ (account m) (joined_account m) (joined_account m)

after_load_account : (told : DeviceResult) (m : Machine) → account (after_load told m) ≡ account m
after_load_account Good m = refl
after_load_account Failed m = refl
after_load_account NoMemory m = refl

loading_account : (saved : Option ℕ) (told : DeviceResult) (m : Machine) → account (loading saved told m) ≡ account m
loading_account None told m = refl
loading_account (Some s) told m = after_load_account told m

pub rolling_account : (heard : Heard) (m : Machine) → account (rolling heard m) ≡ account m
rolling_account heard m = slicing_account heard.sliced (loading m.saved heard.load m) ∙ loading_account m.saved heard.load m

loss_account : (heard : Heard) (m : Machine) → account (loss heard m).0 ≡ account m
loss_account heard m = chosen (is_running m.ending) (rolling heard m) m (account m) (rolling_account heard m) refl

lost_step_account : (heard : Heard) (m : Machine) (w : ℕ) → account (lost_step heard m w).0 ≡ account m
lost_step_account heard m w =
    chosen_pair (is_alive m w) _ _ (account m)
    (loss_account heard (after_loss (lost m w)) ∙ after_loss_account (lost m w) ∙ lost_account m w)
    refl

tick_account : (heard : Heard) (m : Machine) → account (tick_step heard m).0 ≡ account m
tick_account heard m =
    chosen_pair _ _ (aged m, _) (account m)
    (loss_account heard (after_loss (expired (aged m))) ∙ after_loss_account (expired (aged m)) ∙ expired_account (aged m))
    refl

failed_account : (m : Machine) (w : ℕ) (place : Place) → account (failed_step m w place).0 ≡ account m
failed_account m w place = chosen_pair (is_busy m.alive m.out w) _ _ (account m) refl refl

joined_step_account : (m : Machine) (w : ℕ) → account (joined_step m w).0 ≡ account m
joined_step_account m w = chosen_pair (may_join m w) _ _ (account m) refl refl

-- ---- an event

-- each by the same choice
chosen_each : (b : Bool) (p q : Machine × Answer) (a c : Account) → account p.0 ≡ a → account q.0 ≡ c → account (cond b p q).0 ≡ cond b a c
chosen_each true p q a c e f = e
chosen_each false p q a c e f = f

chosen_one : (b : Bool) (m n : Machine) (a c : Account) → account m ≡ a → account n ≡ c → account (cond b m n) ≡ cond b a c
chosen_one true m n a c e f = e
chosen_one false m n a c e f = f

-- the units of a result are added
abbrev pub with_units : Account → ℕ → ℕ → Account
with_units a w units = (set a.0 w (cut (slice_index_or a.0 w 0 + units)), a.1)

abbrev pub account_after : Account → Stamp → Account
account_after a (DoneBy w task units) = cond (nat_lt w a.1) (with_units a w units) a
account_after a (FailedBy w place) = a
account_after a (LostBy w) = a
account_after a (JoinedBy w) = a
account_after a Ticked = a

on_event_account : (heard : Heard) (m : Machine) (stamp : Stamp) → account (on_event heard m stamp).0 ≡ account_after (account m) stamp
on_event_account heard m (DoneBy w task units) =
    chosen_each (nat_lt w (length m.alive)) (done_step heard (charged m w units) w task) (m, Stale) (with_units (account m) w units) (account m)
    (done_account heard (charged m w units) w task)
    refl
on_event_account heard m (FailedBy w place) = chosen_pair (nat_lt w (length m.alive)) _ (m, Stale) (account m) (failed_account m w place) refl
on_event_account heard m (LostBy w) = chosen_pair (nat_lt w (length m.alive)) _ (m, Stale) (account m) (lost_step_account heard m w) refl
on_event_account heard m (JoinedBy w) = chosen_pair (nat_lt w (length m.alive)) _ (m, Stale) (account m) (joined_step_account m w) refl
on_event_account heard m Ticked = tick_account heard m

after_end_account : (m : Machine) (stamp : Stamp) → has_answer m.ending ≡ true → account (after_end m stamp) ≡ account_after (account m) stamp
after_end_account m (DoneBy w task units) h =
    ap (λ b. account (cond (b && nat_lt w (length m.alive)) (charged m w units) m)) h
    ∙ chosen_one (nat_lt w (length m.alive)) (charged m w units) m (with_units (account m) w units) (account m) refl refl
after_end_account m (FailedBy w place) h = refl
after_end_account m (LostBy w) h = refl
after_end_account m (JoinedBy w) h = refl
after_end_account m Ticked h = refl

abbrev pub is_faulty : JobStatus → Bool
is_faulty Running = false
is_faulty Finished = false
is_faulty Limit = false
is_faulty (Fault fault) = true

accepted_at : (e : JobStatus) (heard : Heard) (m : Machine) (stamp : Stamp) → m.ending ≡ e → is_faulty e ≡ false → account (accepted heard m stamp).0 ≡ account_after (account m) stamp
accepted_at Running heard m stamp is f =
    ap (λ e. account (cond (is_running e) (on_event heard m stamp) (after_end m stamp, Ended)).0) is ∙ on_event_account heard m stamp
accepted_at Finished heard m stamp is f =
    ap (λ e. account (cond (is_running e) (on_event heard m stamp) (after_end m stamp, Ended)).0) is ∙ after_end_account m stamp (ap has_answer is)
accepted_at Limit heard m stamp is f =
    ap (λ e. account (cond (is_running e) (on_event heard m stamp) (after_end m stamp, Ended)).0) is ∙ after_end_account m stamp (ap has_answer is)
accepted_at (Fault fault) heard m stamp is f = absurd (true≢false f)

-- where the job goes on or has an answer, an event adds its units and nothing else
pub accepted_account : (heard : Heard) (m : Machine) (stamp : Stamp) → is_faulty m.ending ≡ false → account (accepted heard m stamp).0 ≡ account_after (account m) stamp
accepted_account heard m stamp f = accepted_at m.ending heard m stamp refl f

-- ---- ends

same_ending : (b : Bool) (m n : Machine) (e : JobStatus) → m.ending ≡ e → n.ending ≡ e → (cond b m n).ending ≡ e
same_ending true m n e p q = p
same_ending false m n e p q = q

after_end_ending : (m : Machine) (stamp : Stamp) → (after_end m stamp).ending ≡ m.ending
after_end_ending m (DoneBy w task units) = same_ending (has_answer m.ending && nat_lt w (length m.alive)) (charged m w units) m m.ending refl refl
after_end_ending m (FailedBy w place) = refl
after_end_ending m (LostBy w) = refl
after_end_ending m (JoinedBy w) = refl
after_end_ending m Ticked = refl

-- an end stays
pub accepted_ending : (heard : Heard) (m : Machine) (stamp : Stamp) → is_running m.ending ≡ false → (accepted heard m stamp).0.ending ≡ m.ending
accepted_ending heard m stamp over =
    ap (λ b. (cond b (on_event heard m stamp) (after_end m stamp, Ended)).0.ending) over ∙ after_end_ending m stamp

-- ---- the sum of units

set_here : (xs : List ℕ) (w x : ℕ) → w < length xs → slice_index_or (set xs w x) w 0 ≡ x
set_here [] w x h = absurd (omega arith)
set_here (y ∷ ys) zero x h = refl
set_here (y ∷ ys) (suc w) x h = set_here ys w x (omega arith)

set_else : (xs : List ℕ) (w v x : ℕ) → v ≢ w → slice_index_or (set xs w x) v 0 ≡ slice_index_or xs v 0
set_else [] w v x n = refl
set_else (y ∷ ys) zero zero x n = absurd (n refl)
set_else (y ∷ ys) (suc w) zero x n = refl
set_else (y ∷ ys) zero (suc v) x n = refl
set_else (y ∷ ys) (suc w) (suc v) x n = set_else ys w v x (λ e. n (ap suc e))

-- the account of worker w
abbrev pub spent_at : Account → ℕ → ℕ
spent_at a w = slice_index_or a.0 w 0

-- one for each worker, and none is above the greatest number
pub record IsAccount (a : Account) : Type 0 where
  pub width : length a.0 ≡ a.1
  pub small : (w : ℕ) → spent_at a w ≤ 2 ^ 128 - 1

cut_none : (most x : ℕ) → x ≤ most → x ≡ min (x + 0) most
cut_none most x h = omega arith

cut_step : (most a u r : ℕ) → min (min (a + u) most + r) most ≡ min (a + (u + r)) most
cut_step most a u r = omega arith

min_most : (most x : ℕ) → min x most ≤ most
min_most most x = omega arith

not_known : (w n : ℕ) → nat_lt w n ≡ false → w < n → ⊥
not_known w n e h = grind (arith, nat_tests)

-- the sum of one result, of worker v, at worker w
added : (a : Account) (v w units : ℕ) → IsAccount a → w < a.1 → (b : Bool) → nat_lt v a.1 ≡ b → (v ≡ w) ⊎ (v ≢ w)
    → spent_at (cond b (with_units a v units) a) w ≡ cut (spent_at a w + cond (eqb v w) units 0)
added a v w units i h true is (inl e) =
    let here : w < length a.0 = omega (arith, i.width) in
    ap (λ x. slice_index_or (set a.0 x (cut (slice_index_or a.0 x 0 + units))) w 0) e
    ∙ set_here a.0 w (cut (slice_index_or a.0 w 0 + units)) here
    ∙ ap (λ c. cut (spent_at a w + cond c units 0)) (sym (eq-eqb v w e))
added a v w units i h true is (inr n) =
    set_else a.0 v w (cut (slice_index_or a.0 v 0 + units)) (λ e. n (sym e))
    ∙ cut_none (2 ^ 128 - 1) (spent_at a w) (i.small w)
    ∙ ap (λ c. cut (spent_at a w + cond c units 0)) (sym (ne_eqb v w n))
added a v w units i h false is (inl e) = absurd (not_known v a.1 is (subst (λ (x : ℕ). x < a.1) (sym e) h))
added a v w units i h false is (inr n) =
    cut_none (2 ^ 128 - 1) (spent_at a w) (i.small w) ∙ ap (λ c. cut (spent_at a w + cond c units 0)) (sym (ne_eqb v w n))

either_way : (v w : ℕ) → (v ≡ w) ⊎ (v ≢ w)
either_way v w = ⊎_elim (λ x. inl x.1) (λ x. inr x.1) (eqb_tells v w)

spent_event : (a : Account) (stamp : Stamp) (w : ℕ) → IsAccount a → w < a.1 → spent_at (account_after a stamp) w ≡ cut (spent_at a w + units_of w stamp)
spent_event a (DoneBy v task units) w i h = added a v w units i h (nat_lt v a.1) refl (either_way v w)
spent_event a (FailedBy v place) w i h = cut_none (2 ^ 128 - 1) (spent_at a w) (i.small w)
spent_event a (LostBy v) w i h = cut_none (2 ^ 128 - 1) (spent_at a w) (i.small w)
spent_event a (JoinedBy v) w i h = cut_none (2 ^ 128 - 1) (spent_at a w) (i.small w)
spent_event a Ticked w i h = cut_none (2 ^ 128 - 1) (spent_at a w) (i.small w)

small_set : (xs : List ℕ) (v x : ℕ) → ((w : ℕ) → slice_index_or xs w 0 ≤ 2 ^ 128 - 1) → x ≤ 2 ^ 128 - 1 → (w : ℕ) → slice_index_or (set xs v x) w 0 ≤ 2 ^ 128 - 1
small_set [] v x old new w = old w
small_set (y ∷ ys) zero x old new zero = new
small_set (y ∷ ys) zero x old new (suc w) = old (suc w)
small_set (y ∷ ys) (suc v) x old new zero = old zero
small_set (y ∷ ys) (suc v) x old new (suc w) = small_set ys v x (λ u. old (suc u)) new w

still_with : (b : Bool) (a : Account) (v units : ℕ) → IsAccount a → IsAccount (cond b (with_units a v units) a) × ((cond b (with_units a v units) a).1 ≡ a.1)
still_with true a v units i = (
  record {
    width = length_set a.0 v _ ∙ i.width;
    small = small_set a.0 v _ i.small (min_most (2 ^ 128 - 1) (slice_index_or a.0 v 0 + units));
  },
  refl,
)
still_with false a v units i = (i, refl)

still : (a : Account) (stamp : Stamp) → IsAccount a → IsAccount (account_after a stamp) × ((account_after a stamp).1 ≡ a.1)
still a (DoneBy v task units) i = still_with (nat_lt v a.1) a v units i
still a (FailedBy v place) i = (i, refl)
still a (LostBy v) i = (i, refl)
still a (JoinedBy v) i = (i, refl)
still a Ticked i = (i, refl)

abbrev pub accounts_after : Account → List Stamp → Account
accounts_after a [] = a
accounts_after a (stamp ∷ stamps) = accounts_after (account_after a stamp) stamps

-- after events each account is the sum of what they bring of that worker
pub spent_sum : (a : Account) (stamps : List Stamp) (w : ℕ) → IsAccount a → w < a.1 → spent_at (accounts_after a stamps) w ≡ cut (spent_at a w + units_by w stamps)
spent_sum a [] w i h = cut_none (2 ^ 128 - 1) (spent_at a w) (i.small w)
spent_sum a (stamp ∷ stamps) w i h =
    let s = still a stamp i in
    spent_sum (account_after a stamp) stamps w s.0 (subst (λ (n : ℕ). w < n) (sym s.1) h)
    ∙ ap (λ x. cut (x + units_by w stamps)) (spent_event a stamp w i h)
    ∙ cut_step (2 ^ 128 - 1) (spent_at a w) (units_of w stamp) (units_by w stamps)
