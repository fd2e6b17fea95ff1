-- By which faults the control model ends a job.
use Rattle.std.proofs.Common.{◌≡◌, ℕ, ◌+◌, Bool, true, false, ◌&&◌, not, cond, Option, Some, None, List, [], ◌∷◌, sym, refl, ap, ◌∙◌}
use Rattle.std.specs.Prelude.{nat_lt}
use Rattle.job_state.specs.declared.fault.JobFault.TheVariants.{NoWorkers}
use Rattle.job_state.specs.declared.fault.Place.{Place}
use Rattle.job_state.specs.declared.settings.Settings as settings
use Rattle.superstep.specs.Job.{Work}
use Rattle.control.specs.declared.control.Out.{Out}
use Rattle.control.specs.declared.job_status.JobStatus.TheVariants.{Finished, Limit, Running}
use Rattle.control.specs.declared.job_status.DeviceResult.{DeviceResult}
use Rattle.control.specs.declared.job_status.DeviceResult.TheVariants.{Failed, Good, NoMemory}
use Rattle.control.specs.declared.answer.Answer.{Answer}
use Rattle.control.specs.declared.answer.Answer.TheVariants.{Ended, Stale, Taken}
use Rattle.control.specs.Machine.{Machine, aged, all_set, begun_anew, charged, closed, count_set, counts, ended_by, expired, finished, freed, has_answer, is_alive, is_busy, is_out, is_running, is_saved_now, joined, lost, may_join, opened, resumed, welcomed}
use Rattle.control.specs.Events.{Heard, Stamp, after_end, after_load, after_loss, after_save, begun, closing, done_step, failed_step, on_event, joined_step, loading, loss, lost_step, rolling, saving, shut, slicing, stale_done, tick_step}
use Rattle.control.specs.Events.Stamp.{DoneBy, FailedBy, JoinedBy, LostBy, Ticked}
use Rattle.coordinator.specs.Steps.{Move, Steps, after, moved}
use Rattle.coordinator.specs.inside.EventLoop.{is_own}
use Rattle.coordinator.specs.Steps.Move.{Hand, Take}
use Rattle.hub_ends.specs.declared.message.Message.{Message}
use Rattle.hub_ends.specs.declared.order.Order.{Order}

abbrev pub own : Machine → Bool
own m = is_own m.ending

chosen : (b : Bool) (m n : Machine) → own m ≡ true → own n ≡ true → own (cond b m n) ≡ true
chosen true m n p q = p
chosen false m n p q = q

chosen_pair : (b : Bool) (m n : Machine × Answer) → own m.0 ≡ true → own n.0 ≡ true → own (cond b m n).0 ≡ true
chosen_pair true m n p q = p
chosen_pair false m n p q = q

ending_own : (a b : Bool) → is_own (cond a Finished (cond b Running Limit)) ≡ true
ending_own true b = refl
ending_own false true = refl
ending_own false false = refl

after_save_own : (told : DeviceResult) (m : Machine) → own m ≡ true → own (after_save told m) ≡ true
after_save_own Good m h = h
after_save_own Failed m h = h
after_save_own NoMemory m h = refl

saving_own : (told : DeviceResult) (m : Machine) → own m ≡ true → own (saving told m) ≡ true
saving_own told m h = chosen (is_saved_now m) (after_save told m) m (after_save_own told m h) h

slicing_own : (sliced : Bool) (m : Machine) → own m ≡ true → own (slicing sliced m) ≡ true
slicing_own sliced m h = chosen (is_running m.ending && not sliced) _ m refl h

welcomed_own : (m : Machine) → own m ≡ true → own (welcomed m) ≡ true
welcomed_own m h = chosen _ _ m h h

shut_own : (heard : Heard) (m : Machine) → own (shut heard m).0 ≡ true
shut_own heard m =
    let begun = closed heard.quiet m in
    let saves = saving heard.save begun in
    let sliced = slicing heard.sliced saves in
    chosen_pair heard.merged _ _
    (welcomed_own sliced (slicing_own heard.sliced saves (saving_own heard.save begun (ending_own heard.quiet (nat_lt (m.superstep + 1) m.settings.limit)))))
    refl

closing_own : (heard : Heard) (m : Machine) → own m ≡ true → own (closing heard m).0 ≡ true
closing_own heard m h = chosen_pair (all_set m.done) _ _ (shut_own heard m) h

stale_own : (m : Machine) (w : ℕ) (task : Out) → own m ≡ true → own (stale_done m w task) ≡ true
stale_own m w task h = chosen (is_out m w task) (freed m w) m h h

done_own : (heard : Heard) (m : Machine) (w : ℕ) (task : Out) → own m ≡ true → own (done_step heard m w task).0 ≡ true
done_own heard m w task h =
    chosen_pair (counts m w task) _ _ (closing_own heard (finished (freed m w) task.part) h) (stale_own m w task h)

after_loss_own : (m : Machine) → own m ≡ true → own (after_loss m) ≡ true
after_loss_own m h =
    chosen (nat_lt 0 (count_set (joined m).alive)) (begun_anew (joined m)) (ended_by NoWorkers (joined m)) h refl

after_load_own : (told : DeviceResult) (m : Machine) → own m ≡ true → own (after_load told m) ≡ true
after_load_own Good m h = h
after_load_own Failed m h = h
after_load_own NoMemory m h = refl

loading_own : (saved : Option ℕ) (told : DeviceResult) (m : Machine) → own m ≡ true → own (loading saved told m) ≡ true
loading_own None told m h = h
loading_own (Some s) told m h = after_load_own told m h

rolling_own : (heard : Heard) (m : Machine) → own m ≡ true → own (rolling heard m) ≡ true
rolling_own heard m h = slicing_own heard.sliced (loading m.saved heard.load m) (loading_own m.saved heard.load m h)

loss_own : (heard : Heard) (m : Machine) → own m ≡ true → own (loss heard m).0 ≡ true
loss_own heard m h = chosen (is_running m.ending) (rolling heard m) m (rolling_own heard m h) h

lost_own : (heard : Heard) (m : Machine) (w : ℕ) → own m ≡ true → own (lost_step heard m w).0 ≡ true
lost_own heard m w h = chosen_pair (is_alive m w) _ _ (loss_own heard (after_loss (lost m w)) (after_loss_own (lost m w) h)) h

tick_own : (heard : Heard) (m : Machine) → own m ≡ true → own (tick_step heard m).0 ≡ true
tick_own heard m h =
    chosen_pair (nat_lt (count_set (expired (aged m)).alive) (count_set (aged m).alive)) (loss heard (after_loss (expired (aged m)))) (aged m, Taken)
    (loss_own heard (after_loss (expired (aged m))) (after_loss_own (expired (aged m)) h)) h

failed_own : (m : Machine) (w : ℕ) (place : Place) → own m ≡ true → own (failed_step m w place).0 ≡ true
failed_own m w place h = chosen_pair (is_busy m.alive m.out w) _ _ refl h

joined_own : (m : Machine) (w : ℕ) → own m ≡ true → own (joined_step m w).0 ≡ true
joined_own m w h = chosen_pair (may_join m w) _ _ h h

on_event_own : (heard : Heard) (m : Machine) (stamp : Stamp) → own m ≡ true → own (on_event heard m stamp).0 ≡ true
on_event_own heard m (DoneBy w task units) h = chosen_pair (nat_lt w _) (done_step heard (charged m w units) w task) (m, Stale) (done_own heard (charged m w units) w task h) h
on_event_own heard m (FailedBy w place) h = chosen_pair (nat_lt w _) _ (m, Stale) (failed_own m w place h) h
on_event_own heard m (LostBy w) h = chosen_pair (nat_lt w _) _ (m, Stale) (lost_own heard m w h) h
on_event_own heard m (JoinedBy w) h = chosen_pair (nat_lt w _) _ (m, Stale) (joined_own m w h) h
on_event_own heard m Ticked h = tick_own heard m h

after_end_own : (m : Machine) (stamp : Stamp) → own m ≡ true → own (after_end m stamp) ≡ true
after_end_own m (DoneBy w task units) h = chosen (has_answer m.ending && nat_lt w _) (charged m w units) m h h
after_end_own m (FailedBy w place) h = h
after_end_own m (LostBy w) h = h
after_end_own m (JoinedBy w) h = h
after_end_own m Ticked h = h

moved_own : (m : Machine) (move : Move) → own m ≡ true → own (moved m move) ≡ true
moved_own m (Hand w task) h = h
moved_own m (Take heard stamp) h = chosen_pair (is_running m.ending) (on_event heard m stamp) (after_end m stamp, Ended) (on_event_own heard m stamp h) (after_end_own m stamp h)

after_own : (m : Machine) (moves : List Move) → own m ≡ true → own (after m moves) ≡ true
after_own m [] h = h
after_own m (move ∷ moves) h = after_own (moved m move) moves (moved_own m move h)

pub opened_own : (s : settings.Settings) (quiet : Bool) → own (opened s quiet) ≡ true
opened_own s quiet = ending_own quiet (nat_lt 0 s.limit)

pub begun_own : (heard : Heard) (s : settings.Settings) (superstep : ℕ) → own (begun heard s superstep) ≡ true
begun_own heard s superstep = rolling_own heard (resumed s superstep) refl

pub steps_own : {J : Type 0} (work : Work) (honest : ℕ → Bool) (m n : Machine) (got got' : List (Message J)) (ls ls' : List (List (Order J)))
    → Steps work honest m n got got' ls ls' → own m ≡ true → own n ≡ true
steps_own work honest m n got got' ls ls' p is = ap own (sym p.leads) ∙ after_own m p.moves is
