-- Rows of new ends, one longer.
use Rattle.std.proofs.Common.{◌≡◌, ℕ, zero, suc, ◌+◌, List, [], ◌∷◌, ◌++◌, map, length, slice_get, slice_index_or, Some, sym, refl, subst, arith}
use Rattle.hub_ends.specs.Hub.{AreNewPasses, Channels, HaveRoomFor, IsNewPass}
use Rattle.hub_ends.specs.declared.message.Message.{Message}
use Rattle.hub_ends.specs.declared.order.Order.{Order}
use Rattle.hub_ends.specs.declared.pass.WorkerPass.{WorkerPass}
use Rattle.hub_ends.specs.Channel.{Channel, room_of}
use Rattle.hub_ends.specs.inside.Opening.{IsNewPassOf}
use Rattle.hub_ends.proofs.Handed.{get_end, get_more}

-- one more that nothing was handed to
pub at_more : {A C : Type 0} (f : A → List C) (xs : List A) (x : A) → f x ≡ [] → ((w : ℕ) → slice_index_or (map f xs) w [] ≡ []) → (w : ℕ) → slice_index_or (map f (xs ++ x ∷ [])) w [] ≡ []
at_more f [] x e old zero = e
at_more f [] x e old (suc w) = refl
at_more f (y ∷ ys) x e old zero = old zero
at_more f (y ∷ ys) x e old (suc w) = at_more f ys x e (λ v. old (suc v)) w

module _ {J : Type 0} where
  -- with one channel more
  pass_wider : (events : Channel (Message J)) (os : List (Channel (Order J))) (c : Channel (Order J)) (w : ℕ) (p : WorkerPass J)
      → IsNewPass (record { events = events; orders = os }) w p → IsNewPass (record { events = events; orders = os ++ c ∷ [] }) w p
  pass_wider events os c w p old = record {
    worker = old.worker;
    events = old.events;
    orders = get_more os (c ∷ []) w _ old.orders;
    nothing_handed_in = old.nothing_handed_in;
    nothing_taken = old.nothing_taken;
  }

  wider : (events : Channel (Message J)) (os : List (Channel (Order J))) (c : Channel (Order J)) (n : ℕ) (ps : List (WorkerPass J))
      → AreNewPasses (record { events = events; orders = os }) n ps → AreNewPasses (record { events = events; orders = os ++ c ∷ [] }) n ps
  wider events os c n [] old = tt
  wider events os c n (p ∷ ps) old = (pass_wider events os c n p old.0, wider events os c (n + 1) ps old.1)

  longer : (channels : Channels J) (n : ℕ) (ps : List (WorkerPass J)) (p : WorkerPass J)
      → AreNewPasses channels n ps → IsNewPass channels (n + length ps) p → AreNewPasses channels n (ps ++ p ∷ [])
  longer channels n [] p old new = (subst (λ (k : ℕ). IsNewPass channels k p) (let z : n + 0 ≡ n = omega arith in z) new, tt)
  longer channels n (q ∷ qs) p old new =
      (old.0, longer channels (n + 1) qs p old.1 (subst (λ (k : ℕ). IsNewPass channels k p) (let z : n + suc (length qs) ≡ n + 1 + length qs = omega arith in z) new))

  new_here : (events : Channel (Message J)) (os : List (Channel (Order J))) (c : Channel (Order J)) (w : ℕ) (p : WorkerPass J)
      → IsNewPassOf events c w p → length os ≡ w → IsNewPass (record { events = events; orders = os ++ c ∷ [] }) w p
  new_here events os c w p new long = record {
    worker = new.worker;
    events = new.events_are;
    orders = subst (λ (x : Channel (Order J)). slice_get (os ++ c ∷ []) w ≡ Some x) (sym new.orders_are) (get_end os c w long);
    nothing_handed_in = new.nothing_handed_in;
    nothing_taken = new.nothing_taken;
  }

  rooms_end : (n : ℕ) (cs : List (Channel (Order J))) (c : Channel (Order J)) → HaveRoomFor n cs → room_of c ≡ n → HaveRoomFor n (cs ++ c ∷ [])
  rooms_end n [] c old new = (new, tt)
  rooms_end n (d ∷ cs) c old new = (old.0, rooms_end n cs c old.1 new)

  -- one worker more, with its channel
  pub passes_more : (events : Channel (Message J)) (os os' : List (Channel (Order J))) (c : Channel (Order J)) (w : ℕ) (ps ps' : List (WorkerPass J)) (p : WorkerPass J)
      → AreNewPasses (record { events = events; orders = os }) 0 ps → IsNewPassOf events c w p → length os ≡ w → length ps ≡ w → os' ≡ os ++ c ∷ [] → ps' ≡ ps ++ p ∷ []
      → AreNewPasses (record { events = events; orders = os' }) 0 ps'
  passes_more events os os' c w ps ps' p old new wide long more one =
      let all : AreNewPasses (record { events = events; orders = os ++ c ∷ [] }) 0 (ps ++ p ∷ []) =
      longer (record { events = events; orders = os ++ c ∷ [] }) 0 ps p (wider events os c 0 ps old)
      (subst (λ (k : ℕ). IsNewPass (record { events = events; orders = os ++ c ∷ [] }) k p) (let z : w ≡ 0 + length ps = omega (arith, long) in z) (new_here events os c w p new wide)) in
      subst (λ (x : List (Channel (Order J)) × List (WorkerPass J)). AreNewPasses (record { events = events; orders = x.0 }) 0 x.1) (λ i. (sym more i, sym one i)) all

  -- one channel more
  pub rooms_more : (n : ℕ) (cs cs' : List (Channel (Order J))) (c : Channel (Order J)) → HaveRoomFor n cs → room_of c ≡ n → cs' ≡ cs ++ c ∷ [] → HaveRoomFor n cs'
  rooms_more n cs cs' c old new is = subst (λ l. HaveRoomFor n l) (sym is) (rooms_end n cs c old new)
