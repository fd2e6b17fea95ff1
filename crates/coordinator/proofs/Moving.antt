-- Lists of hands and events follow one another.
use Rattle.std.proofs.lemmas.Bool.Decides.{eqb_tells}
use Rattle.std.proofs.Common.{◌≡◌, ◌≢◌, ℕ, zero, suc, ◌<◌, Bool, cond, Option, Some, None, Result, List, [], ◌∷◌, ◌++◌, map, length, set, sym, refl, ap, ◌∙◌, subst, append_assoc, eq-eqb, ne_eqb, ◌⊎◌, ⊎_elim, inl, inr}
use mathlib.Core.List.{append-nil}
use Rattle.superstep.specs.Job.{Work}
use Rattle.job_state.specs.declared.fault.JobFault.{JobFault}
use Rattle.superstep.specs.declared.task.Task.{Task}
use Rattle.control.specs.declared.control.Out.{Out}
use Rattle.control.specs.declared.answer.Answer.{Answer}
use Rattle.control.specs.declared.event.Event.{Event}
use Rattle.control.specs.declared.event.Event.TheVariants as happened
use Rattle.control.specs.Machine.{Machine, hand, handed, task_of}
use Rattle.control.specs.Events.{Heard, accepted, reply_of}
use Rattle.control.specs.Events.Stamp.{LostBy}
use Rattle.control.specs.Stamps.{stamp_of, task_out}
use Rattle.book.specs.Saving.{IsKeptStep, KeepsFor}
use Rattle.book.proofs.Keeps.{keeps_same}
use Rattle.book.proofs.Counts.{kept_still}
use Rattle.hub_ends.specs.Orders.{at, tasks_in, with_order}
use Rattle.coordinator.specs.JobAnswers.{IsLeftBy}
use Rattle.coordinator.specs.Steps.{AreMoves, IsMove, KeptAlong, Move, Steps, after, event_of, events, hand_of, hands, moved}
use Rattle.worker_loops.specs.Numbers.{outs_in, stamps_in}
use Rattle.coordinator.specs.Steps.Move.{Hand, Take}
use Rattle.coordinator.specs.Joining.{loss_in, losses}
use Rattle.coordinator.specs.inside.EventLoop.{StepsOver}
use Rattle.coordinator.specs.inside.Told.{IsToldNext, StepsDue, StepsTold, due_by, due_to, lost_in}
use Rattle.coordinator.specs.declared.event_loop.Due.{Due}
use Rattle.hub_ends.specs.declared.message.Message.{Message}
use Rattle.hub_ends.specs.declared.message.Message.TheVariants as message
use Rattle.hub_ends.specs.declared.order.Order.{Order}
use Rattle.hub_ends.specs.declared.order.Order.TheVariants.{Do}
use Rattle.hub_ends.specs.declared.message.Sender.{Sender}
use Rattle.hub_ends.specs.Verdicts.{AreUntold}
use Rattle.hub_ends.proofs.Handed.{at_set_else, at_set_here}
use Rattle.worker_loops.proofs.Numbers.{outs_task, stamps_bye, stamps_event}

-- ---- lists of moves

after-append : (m : Machine) (xs ys : List Move) → after m (xs ++ ys) ≡ after (after m xs) ys
after-append m [] ys = refl
after-append m (x ∷ xs) ys = after-append (moved m x) xs ys

moves-append : (work : Work) (honest : ℕ → Bool) (m : Machine) (xs ys : List Move) → AreMoves work honest m xs → AreMoves work honest (after m xs) ys → AreMoves work honest m (xs ++ ys)
moves-append work honest m [] ys h k = k
moves-append work honest m (x ∷ xs) ys h k = (h.0, moves-append work honest (moved m x) xs ys h.1 k)

events-append : (xs ys : List Move) → events (xs ++ ys) ≡ events xs ++ events ys
events-append [] ys = refl
events-append (x ∷ xs) ys = ap (λ l. event_of x ++ l) (events-append xs ys) ∙ sym (append_assoc (event_of x) (events xs) (events ys))

hands-append : (w : ℕ) (xs ys : List Move) → hands w (xs ++ ys) ≡ hands w xs ++ hands w ys
hands-append w [] ys = refl
hands-append w (x ∷ xs) ys = ap (λ l. hand_of w x ++ l) (hands-append w xs ys) ∙ sym (append_assoc (hand_of w x) (hands w xs) (hands w ys))

-- ---- one hand

hand_here : (w v : ℕ) (task : Out) → v ≡ w → hands w (Hand v task ∷ []) ≡ task ∷ []
hand_here w v task e = append-nil (hand_of w (Hand v task)) ∙ ap (λ b. cond b (task ∷ []) []) (eq-eqb v w e)

hand_else : (w v : ℕ) (task : Out) → v ≢ w → hands w (Hand v task ∷ []) ≡ []
hand_else w v task e = append-nil (hand_of w (Hand v task)) ∙ ap (λ b. cond b (task ∷ []) []) (ne_eqb v w e)

either_way : (v w : ℕ) → (v ≡ w) ⊎ (v ≢ w)
either_way v w = ⊎_elim (λ x. inl x.1) (λ x. inr x.1) (eqb_tells v w)

pub length_set : {A : Type 0} (xs : List A) (w : ℕ) (x : A) → length (set xs w x) ≡ length xs
length_set [] w x = refl
length_set (y ∷ ys) zero x = refl
length_set (y ∷ ys) (suc w) x = ap suc (length_set ys w x)

module _ {J : Type 0} where
  gave_one : (ls : List (List (Order J))) (w v : ℕ) (task : Task J) → w < length ls → (v ≡ w) ⊎ (v ≢ w)
      → outs_in (at (with_order ls w (Do task)) v) ≡ outs_in (at ls v) ++ hands v (Hand w (task_out task) ∷ [])
  gave_one ls w v task h (inl e) =
      ap (λ x. outs_in (at (with_order ls w (Do task)) x)) e ∙ ap outs_in (at_set_here ls w (at ls w ++ Do task ∷ []) h)
      ∙ outs_task (at ls w) task ∙ ap (λ x. outs_in (at ls x) ++ task_out task ∷ []) (sym e)
      ∙ ap (λ l. outs_in (at ls v) ++ l) (sym (hand_here v w (task_out task) (sym e)))
  gave_one ls w v task h (inr n) =
      ap outs_in (at_set_else ls w v (at ls w ++ Do task ∷ []) n) ∙ sym (append-nil (outs_in (at ls v)))
      ∙ ap (λ l. outs_in (at ls v) ++ l) (sym (hand_else v w (task_out task) (λ q. n (sym q))))

-- ---- steps

module _ {J : Type 0} (work : Work) (honest : ℕ → Bool) where
  pub steps_none : (m : Machine) (got : List (Message J)) (ls : List (List (Order J))) → Steps work honest m m got got ls ls
  steps_none m got ls = record {
    moves = [];
    are = tt;
    leads = refl;
    took = sym (append-nil (stamps_in got));
    gave = λ w h. sym (append-nil (outs_in (at ls w)));
    width = refl;
  }

  pub steps_same : (m n : Machine) (got : List (Message J)) (ls : List (List (Order J))) → n ≡ m → Steps work honest m n got got ls ls
  steps_same m n got ls is = record {
    moves = [];
    are = tt;
    leads = sym is;
    took = sym (append-nil (stamps_in got));
    gave = λ w h. sym (append-nil (outs_in (at ls w)));
    width = refl;
  }

  pub steps_then : {a b c : Machine} {g1 g2 g3 : List (Message J)} {l1 l2 l3 : List (List (Order J))}
      → Steps work honest a b g1 g2 l1 l2 → Steps work honest b c g2 g3 l2 l3 → Steps work honest a c g1 g3 l1 l3
  steps_then {a} {b} {c} {g1} {g2} {g3} {l1} {l2} {l3} p q = record {
    moves = p.moves ++ q.moves;
    are = moves-append work honest a p.moves q.moves p.are (subst (λ (x : Machine). AreMoves work honest x q.moves) (sym p.leads) q.are);
    leads = after-append a p.moves q.moves ∙ ap (λ x. after x q.moves) p.leads ∙ q.leads;
    took = q.took ∙ ap (λ l. l ++ events q.moves) p.took ∙ append_assoc (stamps_in g1) (events p.moves) (events q.moves)
        ∙ ap (λ l. stamps_in g1 ++ l) (sym (events-append p.moves q.moves));
    gave = λ w h. q.gave w (subst (λ (n : ℕ). w < n) (sym p.width) h) ∙ ap (λ l. l ++ hands w q.moves) (p.gave w h)
        ∙ append_assoc (outs_in (at l1 w)) (hands w p.moves) (hands w q.moves)
        ∙ ap (λ l. outs_in (at l1 w) ++ l) (sym (hands-append w p.moves q.moves));
    width = q.width ∙ p.width;
  }

  -- a task is handed out
  pub steps_hand : (m n : Machine) (got got' : List (Message J)) (ls ls' : List (List (Order J))) (w : ℕ) (task : Task J)
      → w < length ls → hand m w ≡ Some task.part → task_out task ≡ task_of m task.part → n ≡ handed m w task.part → got' ≡ got → ls' ≡ with_order ls w (Do task)
      → Steps work honest m n got got' ls ls'
  steps_hand m n got got' ls ls' w task h may same to still is = record {
    moves = Hand w (task_out task) ∷ [];
    are = ((may, same), tt);
    leads = sym to;
    took = ap stamps_in still ∙ sym (append-nil (stamps_in got));
    gave = λ v k. ap (λ l. outs_in (at l v)) is ∙ gave_one ls w v task h (either_way v w);
    width = ap length is ∙ length_set ls w (at ls w ++ Do task ∷ []);
  }

  -- an event is taken
  pub steps_event : (m n : Machine) (heard : Heard) (got got' : List (Message J)) (ls ls' : List (List (Order J))) (event : Event J)
      → IsMove work honest m (Take heard (stamp_of event)) → (accepted heard m (stamp_of event)).0 ≡ n → got' ≡ got ++ message.Event event ∷ [] → ls' ≡ ls
      → Steps work honest m n got got' ls ls'
  steps_event m n heard got got' ls ls' event may to more same = record {
    moves = Take heard (stamp_of event) ∷ [];
    are = (may, tt);
    leads = to;
    took = ap stamps_in more ∙ stamps_event got event;
    gave = λ v k. ap (λ l. outs_in (at l v)) same ∙ sym (append-nil (outs_in (at ls v)));
    width = ap length same;
  }

  -- a bye is taken
  pub steps_bye : (m n : Machine) (got got' : List (Message J)) (ls ls' : List (List (Order J))) (sender : Sender)
      → n ≡ m → got' ≡ got ++ message.Bye sender ∷ [] → ls' ≡ ls → Steps work honest m n got got' ls ls'
  steps_bye m n got got' ls ls' sender is more same = record {
    moves = [];
    are = tt;
    leads = sym is;
    took = ap stamps_in more ∙ stamps_bye got sender ∙ sym (append-nil (stamps_in got));
    gave = λ v k. ap (λ l. outs_in (at l v)) same ∙ sym (append-nil (outs_in (at ls v)));
    width = ap length same;
  }

  -- nothing but stops was handed out
  pub steps_still : {m n : Machine} {g g1 : List (Message J)} {l l1 : List (List (Order J))} (g2 : List (Message J)) (l2 : List (List (Order J)))
      → Steps work honest m n g g1 l l1 → g2 ≡ g1 → ((w : ℕ) → tasks_in (at l2 w) ≡ tasks_in (at l1 w)) → length l2 ≡ length l1 → Steps work honest m n g g2 l l2
  steps_still g2 l2 p same kept wide = record {
    moves = p.moves;
    are = p.are;
    leads = p.leads;
    took = ap stamps_in same ∙ p.took;
    gave = λ w h. ap (map task_out) (kept w) ∙ p.gave w h;
    width = wide ∙ p.width;
  }

-- ---- losses

losses-append : (w : ℕ) (m : Machine) (xs ys : List Move) → losses w m (xs ++ ys) ≡ losses w m xs ++ losses w (after m xs) ys
losses-append w m [] ys = refl
losses-append w m (x ∷ xs) ys =
    ap (λ l. loss_in w m x ++ l) (losses-append w (moved m x) xs ys)
    ∙ sym (append_assoc (loss_in w m x) (losses w (moved m x) xs) (losses w (after (moved m x) xs) ys))

-- hands lose nobody
hands_lose : (w : ℕ) (m : Machine) (moves : List Move) → events moves ≡ [] → losses w m moves ≡ []
hands_lose w m [] none = refl
hands_lose w m (Hand v task ∷ moves) none = hands_lose w (moved m (Hand v task)) moves none
hands_lose w m (Take heard stamp ∷ moves) none = absurd (cc)

losses_over : (w : ℕ) (m n : Machine) (xs ys zs : List Move) → events ys ≡ [] → after (after m xs) ys ≡ n
    → losses w m (xs ++ (ys ++ zs)) ≡ losses w m xs ++ losses w n zs
losses_over w m n xs ys zs none leads =
    losses-append w m xs (ys ++ zs)
    ∙ ap (λ l. losses w m xs ++ l) (losses-append w (after m xs) ys zs
    ∙ ap (λ l. l ++ losses w (after (after m xs) ys) zs) (hands_lose w (after m xs) ys none)
    ∙ ap (λ (x : Machine). losses w x zs) leads)

-- the verdict on an event is that on the loss in it
due_event : {J : Type 0} (w : ℕ) (m : Machine) (heard : Heard) (x : Event J) (answer : Result Answer JobFault) → answer ≡ reply_of (accepted heard m (stamp_of x))
    → due_to w (due_by (lost_in x) answer) ≡ losses w m (Take heard (stamp_of x) ∷ [])
due_event w m heard (happened.Done v done) answer e = refl
due_event w m heard (happened.Failed v place) answer e = refl
due_event w m heard (happened.Lost v) answer e =
    ap (λ r. due_to w (due_by (Some v) r)) e ∙ sym (append-nil (loss_in w m (Take heard (LostBy v))))
due_event w m heard (happened.Joined v) answer e = refl
due_event w m heard happened.Tick answer e = refl

-- ---- steps, and what they leave of the Keep

nothing_more : {A : Type 0} (xs ys : List A) → xs ≡ xs ++ ys → ys ≡ []
nothing_more [] ys e = sym e
nothing_more (x ∷ xs) ys e = let t : xs ≡ xs ++ ys = cc in nothing_more xs ys t

along_then : {K : Type 0} (over : Machine → Machine → K → K → Type 0) (m : Machine) (xs ys : List Move) (k k1 k2 : K) → KeptAlong over m k xs k1 → KeptAlong over (after m xs) k1 ys k2 → KeptAlong over m k (xs ++ ys) k2
along_then over m [] ys k k1 k2 p q = subst (λ z. KeptAlong over m z ys k2) (sym p) q
along_then over m (x ∷ xs) ys k k1 k2 p q = (p.0, p.1, along_then over (moved m x) xs ys p.0 k1 k2 p.2 q)

module _ {K : Type 0} (honest : K → Bool) (saved : K → Option ℕ) (may_load : K → List ℕ → Type 0) (faults : K → ℕ) (work : Work) (trusted : ℕ → Bool) where
  abbrev Kept : Machine → Machine → K → K → Type 0
  Kept = IsKeptStep honest saved may_load faults work trusted

  -- hands leave it as it is
  hands_along : (m : Machine) (k : K) (moves : List Move) → KeepsFor work trusted (honest k) (saved k) (may_load k) m → events moves ≡ [] → KeptAlong Kept m k moves k
  hands_along m k [] keeps none = refl
  hands_along m k (Hand w task ∷ moves) keeps none =
      let next = handed m w task.part in (
        k,
        kept_still honest saved may_load faults work trusted m next k keeps refl (record { missed = refl; restarts = refl }),
        hands_along next k moves (keeps_same work trusted (honest k) (saved k) (may_load k) m next refl keeps) none,
      )
  hands_along m k (Take heard stamp ∷ moves) keeps none = absurd (cc)

  module _ {J : Type 0} where
    pub over_none : (m : Machine) (got : List (Message J)) (ls : List (List (Order J))) (k : K) → StepsOver Kept work trusted m m got got ls ls k k
    unfolding steps_none
    over_none m got ls k = record { steps = steps_none work trusted m got ls; kept = refl }

    pub over_then : {a b c : Machine} {g1 g2 g3 : List (Message J)} {l1 l2 l3 : List (List (Order J))} {k1 k2 k3 : K}
        → StepsOver Kept work trusted a b g1 g2 l1 l2 k1 k2 → StepsOver Kept work trusted b c g2 g3 l2 l3 k2 k3 → StepsOver Kept work trusted a c g1 g3 l1 l3 k1 k3
    unfolding steps_then
    over_then {a = a} {k1 = k1} {k2 = k2} {k3 = k3} p q = record {
      steps = steps_then work trusted p.steps q.steps;
      kept = along_then Kept a p.steps.moves q.steps.moves k1 k2 k3 p.kept (subst (λ (x : Machine). KeptAlong Kept x k2 q.steps.moves k3) (sym p.steps.leads) q.kept);
    }

    -- nothing was taken
    pub over_hands : {m n : Machine} {g g' : List (Message J)} {ls ls' : List (List (Order J))} (k : K)
        → Steps work trusted m n g g' ls ls' → g' ≡ g → KeepsFor work trusted (honest k) (saved k) (may_load k) m → StepsOver Kept work trusted m n g g' ls ls' k k
    over_hands {m = m} {g = g} k p same keeps = record {
      steps = p;
      kept = hands_along m k p.moves keeps (nothing_more (stamps_in g) (events p.moves) (ap stamps_in (sym same) ∙ p.took));
    }

    -- an event is taken
    pub over_event : (m n : Machine) (heard : Heard) (got got' : List (Message J)) (ls ls' : List (List (Order J))) (event : Event J) (k k' : K)
        → IsMove work trusted m (Take heard (stamp_of event)) → (accepted heard m (stamp_of event)).0 ≡ n → got' ≡ got ++ message.Event event ∷ [] → ls' ≡ ls → Kept m n k k'
        → StepsOver Kept work trusted m n got got' ls ls' k k'
    unfolding steps_event
    over_event m n heard got got' ls ls' event k k' may to more same kept = record {
      steps = steps_event work trusted m n heard got got' ls ls' event may to more same;
      kept = (k', subst (λ (x : Machine). Kept m x k k') (sym to) kept, refl);
    }

    -- a bye is taken
    pub over_bye : (m n : Machine) (got got' : List (Message J)) (ls ls' : List (List (Order J))) (sender : Sender) (k : K)
        → n ≡ m → got' ≡ got ++ message.Bye sender ∷ [] → ls' ≡ ls → StepsOver Kept work trusted m n got got' ls ls' k k
    unfolding steps_bye
    over_bye m n got got' ls ls' sender k is more same = record { steps = steps_bye work trusted m n got got' ls ls' sender is more same; kept = refl }

    -- where the run stops
    pub left_by : {m n : Machine} {g g' : List (Message J)} {ls ls' : List (List (Order J))} {k k' : K} (g2 : List (Message J)) (k2 : K)
        → StepsOver Kept work trusted m n g g' ls ls' k k' → KeepsFor work trusted (honest k') (saved k') (may_load k') n → g2 ≡ g' → k2 ≡ k'
        → IsLeftBy honest saved may_load faults work trusted m g g2 k k2
    left_by {m = m} {k = k} {k' = k'} g2 k2 p keeps same is = record {
      moves = p.steps.moves;
      are = p.steps.are;
      took = ap stamps_in same ∙ p.steps.took;
      kept = subst (λ z. KeptAlong Kept m k p.steps.moves z) (sym is) p.kept;
      keeps = subst (λ z. KeepsFor work trusted (honest z) (saved z) (may_load z) (after m p.steps.moves)) (sym is)
          (subst (λ (x : Machine). KeepsFor work trusted (honest k') (saved k') (may_load k') x) (sym p.steps.leads) keeps);
    }

    pub left_none : (m : Machine) (got : List (Message J)) (k : K) → KeepsFor work trusted (honest k) (saved k) (may_load k) m → IsLeftBy honest saved may_load faults work trusted m got got k k
    left_none m got k keeps = record { moves = []; are = tt; took = sym (append-nil (stamps_in got)); kept = refl; keeps = keeps }

    -- ---- and what workers are told

    -- nothing yet
    pub told_none : (m : Machine) (got : List (Message J)) (ls : List (List (Order J))) (k : K) (told : List (List Bool)) → AreUntold told → StepsTold Kept work trusted m m got got ls ls k k told
    unfolding steps_none over_none
    told_none m got ls k told untold = record { over = over_none m got ls k; told_is = λ w h. untold w }

    -- an event is taken, and what is due is known
    pub due_taken : (m n : Machine) (heard : Heard) (got got' : List (Message J)) (ls ls' : List (List (Order J))) (event : Event J) (k k' : K) (answer : Result Answer JobFault)
        → IsMove work trusted m (Take heard (stamp_of event)) → (accepted heard m (stamp_of event)).0 ≡ n → got' ≡ got ++ message.Event event ∷ [] → ls' ≡ ls → Kept m n k k'
        → answer ≡ reply_of (accepted heard m (stamp_of event)) → StepsDue Kept work trusted m n got got' ls ls' k k' (due_by (lost_in event) answer)
    unfolding steps_event over_event
    due_taken m n heard got got' ls ls' event k k' answer may to more same kept said = record {
      over = over_event m n heard got got' ls ls' event k k' may to more same kept;
      due_is = λ w. due_event w m heard event answer said;
    }

    -- a bye is taken
    pub due_bye : (m n : Machine) (got got' : List (Message J)) (ls ls' : List (List (Order J))) (sender : Sender) (k : K)
        → n ≡ m → got' ≡ got ++ message.Bye sender ∷ [] → ls' ≡ ls → StepsDue Kept work trusted m n got got' ls ls' k k None
    unfolding steps_bye over_bye
    due_bye m n got got' ls ls' sender k is more same = record { over = over_bye m n got got' ls ls' sender k is more same; due_is = λ w. refl }

    -- tasks are sent, a message is taken, and what is due is told
    pub told_next : {a b c d : Machine} {g1 g2 g3 g4 : List (Message J)} {l1 l2 l3 l4 : List (List (Order J))} {k1 k2 k4 : K} (told told' : List (List Bool)) (due : Option Due)
        → StepsTold Kept work trusted a b g1 g2 l1 l2 k1 k2 told → Steps work trusted b c g2 g3 l2 l3 → g3 ≡ g2 → KeepsFor work trusted (honest k2) (saved k2) (may_load k2) b
        → StepsDue Kept work trusted c d g3 g4 l3 l4 k2 k4 due → IsToldNext told told' due → StepsTold Kept work trusted a d g1 g4 l1 l4 k1 k4 told'
    unfolding steps_then over_then over_hands
    told_next {a = a} {b = b} {c = c} {g2 = g2} {k2 = k2} told told' due p q same keeps t next =
        let xs = p.over.steps.moves in
        let none : events q.moves ≡ [] = nothing_more (stamps_in g2) (events q.moves) (ap stamps_in (sym same) ∙ q.took) in
        let leads : after (after a xs) q.moves ≡ c = ap (λ (x : Machine). after x q.moves) p.over.steps.leads ∙ q.leads in
        record {
          over = over_then p.over (over_then (over_hands k2 q same keeps) t.over);
          told_is = λ w h.
              let here : w < length told = subst (λ (n : ℕ). w < n) next.width h in
              next.next w here ∙ ap (λ l. l ++ due_to w due) (p.told_is w here) ∙ ap (λ l. losses w a xs ++ l) (t.due_is w)
              ∙ sym (losses_over w a c xs q.moves t.over.steps.moves none leads);
        }

    -- tasks are sent
    pub told_still : {a b c : Machine} {g1 g2 g3 : List (Message J)} {l1 l2 l3 : List (List (Order J))} {k1 k2 : K} (told : List (List Bool))
        → StepsTold Kept work trusted a b g1 g2 l1 l2 k1 k2 told → Steps work trusted b c g2 g3 l2 l3 → g3 ≡ g2 → KeepsFor work trusted (honest k2) (saved k2) (may_load k2) b
        → StepsTold Kept work trusted a c g1 g3 l1 l3 k1 k2 told
    unfolding steps_then over_then over_hands
    told_still {a = a} {g2 = g2} {k2 = k2} told p q same keeps =
        let xs = p.over.steps.moves in
        let none : events q.moves ≡ [] = nothing_more (stamps_in g2) (events q.moves) (ap stamps_in (sym same) ∙ q.took) in
        record {
          over = over_then p.over (over_hands k2 q same keeps);
          told_is = λ w h.
              p.told_is w h ∙ sym (append-nil (losses w a xs)) ∙ ap (λ l. losses w a xs ++ l) (sym (hands_lose w (after a xs) q.moves none))
              ∙ sym (losses-append w a xs q.moves);
        }
