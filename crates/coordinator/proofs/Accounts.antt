-- What a list of hands and events leaves: its end, and the account of each worker.
use Rattle.std.proofs.Common.{◌≡◌, ◌<◌, ◌+◌, ◌-◌, ◌≤◌, ◌^◌, ℕ, zero, suc, Bool, true, false, true≢false, List, [], ◌∷◌, ◌++◌, length, replicate, slice_index_or, sym, refl, ap, ◌∙◌, subst, arith}
use Rattle.superstep.specs.Job.{Work}
use Rattle.control.specs.declared.job_status.JobStatus.{JobStatus}
use Rattle.control.specs.declared.job_status.JobStatus.TheVariants.{Fault, Finished, Limit, Running}
use Rattle.control.specs.Events.{Heard, begun}
use Rattle.control.specs.Machine.{Machine, has_answer, is_running, opened, resumed}
use Rattle.coordinator.specs.Steps.{Move, Steps, after, events, moved}
use Rattle.worker_loops.specs.Numbers.{stamps_in}
use Rattle.coordinator.specs.Steps.Move.{Hand, Take}
use Rattle.coordinator.specs.Units.{cut, units_by}
use Rattle.coordinator.specs.inside.EventLoop.{IsUnspent}
use Rattle.hub_ends.specs.declared.message.Message.{Message}
use Rattle.hub_ends.specs.declared.order.Order.{Order}
use Rattle.coordinator.proofs.Faults.{begun_own, opened_own}
use Rattle.coordinator.proofs.Spent.{Account, IsAccount, account, accepted_account, accepted_ending, accounts_after, is_faulty, rolling_account, spent_at, spent_sum}

-- ---- an end stays

moved_ending : (m : Machine) (move : Move) → is_running m.ending ≡ false → (moved m move).ending ≡ m.ending
moved_ending m (Hand w task) over = refl
moved_ending m (Take heard stamp) over = accepted_ending heard m stamp over

stays : (m : Machine) (moves : List Move) → is_running m.ending ≡ false → (after m moves).ending ≡ m.ending
stays m [] over = refl
stays m (move ∷ moves) over =
    let now = moved_ending m move over in
    stays (moved m move) moves (ap is_running now ∙ over) ∙ now

pub steps_over : {J : Type 0} (work : Work) (honest : ℕ → Bool) {m n : Machine} {got got' : List (Message J)} {ls ls' : List (List (Order J))}
    → Steps work honest m n got got' ls ls' → is_running m.ending ≡ false → is_running n.ending ≡ false
steps_over work honest {m} {n} p over = ap (λ (x : Machine). is_running x.ending) (sym p.leads) ∙ ap is_running (stays m p.moves over) ∙ over

-- ---- the accounts at the end

not_running : (e : JobStatus) → is_faulty e ≡ true → is_running e ≡ false
not_running Running f = absurd (true≢false (sym f))
not_running Finished f = refl
not_running Limit f = refl
not_running (Fault fault) f = refl

no_answer : (e : JobStatus) → is_faulty e ≡ true → has_answer e ≡ false
no_answer Running f = absurd (true≢false (sym f))
no_answer Finished f = absurd (true≢false (sym f))
no_answer Limit f = absurd (true≢false (sym f))
no_answer (Fault fault) f = refl

-- what comes to an answer has no fault on the way
sound_at : (e : JobStatus) (m : Machine) (moves : List Move) → m.ending ≡ e → has_answer (after m moves).ending ≡ true → (b : Bool) → is_faulty e ≡ b → is_faulty m.ending ≡ false
sound_at e m moves is h false f = ap is_faulty is ∙ f
sound_at e m moves is h true f =
    let over : is_running m.ending ≡ false = ap is_running is ∙ not_running e f in
    absurd (true≢false (sym h ∙ ap has_answer (stays m moves over ∙ is) ∙ no_answer e f))

sound : (m : Machine) (moves : List Move) → has_answer (after m moves).ending ≡ true → is_faulty m.ending ≡ false
sound m moves h = sound_at m.ending m moves refl h (is_faulty m.ending) refl

accounts : (m : Machine) (moves : List Move) → has_answer (after m moves).ending ≡ true → account (after m moves) ≡ accounts_after (account m) (events moves)
accounts m [] h = refl
accounts m (Hand w task ∷ moves) h = accounts (moved m (Hand w task)) moves h
accounts m (Take heard stamp ∷ moves) h =
    accounts (moved m (Take heard stamp)) moves h
    ∙ ap (λ a. accounts_after a (events moves)) (accepted_account heard m stamp (sound m (Take heard stamp ∷ moves) h))

zeros : (n w : ℕ) → slice_index_or (replicate {A = ℕ} n 0) w 0 ≡ 0
zeros zero w = refl
zeros (suc n) zero = refl
zeros (suc n) (suc w) = zeros n w

length_replicate : {A : Type 0} (n : ℕ) (x : A) → length (replicate n x) ≡ n
length_replicate zero x = refl
length_replicate (suc n) x = ap suc (length_replicate n x)

-- a book that was opened has handed out and taken nothing
pub opened_unspent : (work : Work) (quiet : Bool) → IsUnspent work (opened work.settings quiet)
opened_unspent work quiet = record { own = opened_own work.settings quiet; spent = refl; width = length_replicate work.settings.workers true }

-- nor has one that goes on
pub begun_unspent : (work : Work) (heard : Heard) (superstep : ℕ) → IsUnspent work (begun heard work.settings superstep)
begun_unspent work heard superstep =
    let same = rolling_account heard (resumed work.settings superstep) in
    record {
      own = begun_own heard work.settings superstep;
      spent = ap (λ (a : Account). a.0) same;
      width = ap (λ (a : Account). a.1) same ∙ length_replicate work.settings.workers true;
    }

unspent_account : (work : Work) (m : Machine) → IsUnspent work m → IsAccount (account m)
unspent_account work m u = record {
  width = ap length u.spent ∙ length_replicate work.settings.workers 0 ∙ sym u.width;
  small = λ w. subst (λ (x : ℕ). x ≤ 2 ^ 128 - 1) (sym (ap (λ l. slice_index_or l w 0) u.spent ∙ zeros work.settings.workers w)) (omega arith);
}

-- what the book added up of a worker is the sum of the units that were received of it
pub spent_of : {J : Type 0} (work : Work) (honest : ℕ → Bool) (begin n : Machine) (got got' : List (Message J)) (ls ls' : List (List (Order J)))
    → Steps work honest begin n got got' ls ls' → IsUnspent work begin → has_answer n.ending ≡ true → got ≡ [] → (w : ℕ) → w < work.settings.workers
    → slice_index_or n.spent w 0 ≡ cut (units_by w (stamps_in got'))
spent_of work honest begin n got got' ls ls' p u h none w below =
    let same : stamps_in got' ≡ events p.moves = p.took ∙ ap (λ l. stamps_in l ++ events p.moves) none in
    let told : has_answer (after begin p.moves).ending ≡ true = ap (λ (x : Machine). has_answer x.ending) p.leads ∙ h in
    let here : w < (account begin).1 = subst (λ (k : ℕ). w < k) (sym u.width) below in
    ap (λ (x : Machine). slice_index_or x.spent w 0) (sym p.leads)
    ∙ ap (λ a. spent_at a w) (accounts begin p.moves told)
    ∙ spent_sum (account begin) (events p.moves) w (unspent_account work begin u) here
    ∙ ap (λ x. cut (x + units_by w (events p.moves))) (ap (λ l. slice_index_or l w 0) u.spent ∙ zeros work.settings.workers w)
    ∙ ap cut (let z : 0 + units_by w (events p.moves) ≡ units_by w (events p.moves) = omega arith in z)
    ∙ ap (λ l. cut (units_by w l)) (sym same)
