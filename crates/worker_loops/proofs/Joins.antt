-- What a worker hears of its losses, and that it joins only after those that were counted.
use Rattle.std.proofs.lemmas.Bool.{and_from, and_parts}
use Rattle.std.proofs.Common.{◌≡◌, ◌∙◌, ℕ, Bool, true, false, List, [], ◌∷◌, ◌++◌, append_assoc, ap, refl, sym, subst}
use mathlib.Core.List.{IsPrefix, append-nil}
use Rattle.control.specs.declared.event.Event.{Event}
use Rattle.control.specs.declared.event.Event.TheVariants as happened
use Rattle.control.specs.Stamps.{stamp_of}
use Rattle.control.specs.Events.{Stamp}
use Rattle.control.specs.Events.Stamp.{DoneBy, FailedBy, JoinedBy, LostBy, Ticked}
use Rattle.worker_loops.specs.Counted.{first_of, joins_counted, rest_of}
use Rattle.hub_ends.specs.Messages.{is_joined, is_lost}
use Rattle.worker_loops.specs.Numbers.{stamps_in}
use Rattle.worker_loops.specs.inside.Joins.{AddsCounted}
use Rattle.hub_ends.specs.declared.message.Message.{Message}
use Rattle.hub_ends.specs.declared.message.Message.TheVariants as message
use Rattle.hub_ends.specs.declared.message.Sender.{Sender}
use Rattle.worker_loops.proofs.Numbers.{stamps_bye, stamps_event}

-- ---- joins of one worker

-- also after a loss that was counted
joins_sure : (counted : Bool) (ls : List Bool) (xs : List Stamp) → joins_counted false ls xs ≡ true → joins_counted counted ls xs ≡ true
joins_sure counted ls [] h = refl
joins_sure counted ls (DoneBy w task units ∷ xs) h = h
joins_sure counted ls (FailedBy w place ∷ xs) h = h
joins_sure counted ls (LostBy w ∷ xs) h = h
joins_sure counted ls (JoinedBy w ∷ xs) h = absurd (cc)
joins_sure counted ls (Ticked ∷ xs) h = h

-- with verdicts that were not heard
joins_unheard : (counted : Bool) (ls more : List Bool) (xs : List Stamp) → joins_counted counted ls xs ≡ true → joins_counted counted (ls ++ more) xs ≡ true
joins_unheard counted ls more [] h = refl
joins_unheard counted ls more (DoneBy w task units ∷ xs) h = joins_unheard false ls more xs h
joins_unheard counted ls more (FailedBy w place ∷ xs) h = joins_unheard false ls more xs h
joins_unheard counted [] more (LostBy w ∷ xs) h = joins_sure (first_of more) (rest_of more) xs (joins_unheard false [] (rest_of more) xs h)
joins_unheard counted (l ∷ ls) more (LostBy w ∷ xs) h = joins_unheard l ls more xs h
joins_unheard counted ls more (JoinedBy w ∷ xs) h =
    let both = and_parts counted (joins_counted false ls xs) h in
    and_from counted (joins_counted false (ls ++ more) xs) both.0 (joins_unheard false ls more xs both.1)
joins_unheard counted ls more (Ticked ∷ xs) h = joins_unheard false ls more xs h

pub joins_told : (told heard : List Bool) (xs : List Stamp) → IsPrefix heard told → joins_counted false heard xs ≡ true → joins_counted false told xs ≡ true
joins_told told heard xs p h = subst (λ l. joins_counted false l xs ≡ true) p.1 (joins_unheard false heard p.0 xs h)

-- ---- what a worker sends and hears

module _ {J : Type 0} where
  pub counted_none : (xs : List (Message J)) (hs : List Bool) → AddsCounted xs xs hs hs
  counted_none xs hs = record {
    stamps = [];
    added = sym (append-nil (stamps_in xs));
    told = [];
    heard_is = sym (append-nil hs);
    joins = λ counted others later h. joins_sure counted others later h;
  }

  pub counted_then : {a b c : List (Message J)} {g h k : List Bool} → AddsCounted a b g h → AddsCounted b c h k → AddsCounted a c g k
  counted_then {a = a} {g = g} p q = record {
    stamps = p.stamps ++ q.stamps;
    added = q.added ∙ ap (λ l. l ++ q.stamps) p.added ∙ append_assoc (stamps_in a) p.stamps q.stamps;
    told = p.told ++ q.told;
    heard_is = q.heard_is ∙ ap (λ l. l ++ q.told) p.heard_is ∙ append_assoc g p.told q.told;
    joins = λ counted others later h.
        ap (λ l. joins_counted counted l ((p.stamps ++ q.stamps) ++ later)) (append_assoc p.told q.told others)
        ∙ ap (λ l. joins_counted counted (p.told ++ (q.told ++ others)) l) (append_assoc p.stamps q.stamps later)
        ∙ p.joins counted (q.told ++ others) (q.stamps ++ later) (q.joins false others later h);
  }

  -- nothing was heard, and the messages have other names
  pub counted_as : {a b c : List (Message J)} {g h : List Bool} → b ≡ a → AddsCounted b c g h → AddsCounted a c g h
  counted_as {c = c} {g = g} {h = h} e p = subst (λ l. AddsCounted l c g h) e p

  event_joins : (x : Event J) → is_joined x ≡ false → is_lost x ≡ false → (counted : Bool) (others : List Bool) (later : List Stamp) → joins_counted false others later ≡ true
      → joins_counted counted others (stamp_of x ∷ later) ≡ true
  event_joins (happened.Done w done) none stays counted others later h = h
  event_joins (happened.Failed w place) none stays counted others later h = h
  event_joins (happened.Lost w) none stays counted others later h = absurd (cc)
  event_joins (happened.Joined w) none stays counted others later h = absurd (cc)
  event_joins happened.Tick none stays counted others later h = h

  -- one event more, which is no loss and no join
  pub counted_event : (xs ys : List (Message J)) (x : Event J) (hs : List Bool) → ys ≡ xs ++ message.Event x ∷ [] → is_joined x ≡ false → is_lost x ≡ false → AddsCounted xs ys hs hs
  counted_event xs ys x hs is none stays = record {
    stamps = stamp_of x ∷ [];
    added = ap stamps_in is ∙ stamps_event xs x;
    told = [];
    heard_is = sym (append-nil hs);
    joins = λ counted others later h. event_joins x none stays counted others later h;
  }

  -- a loss, and the verdict on it
  pub counted_loss : (xs ys : List (Message J)) (w : ℕ) (hs ks : List Bool) (v : Bool) → ys ≡ xs ++ message.Event (happened.Lost w) ∷ [] → ks ≡ hs ++ v ∷ [] → AddsCounted xs ys hs ks
  counted_loss xs ys w hs ks v is heard = record {
    stamps = LostBy w ∷ [];
    added = ap stamps_in is ∙ stamps_event xs (happened.Lost w);
    told = v ∷ [];
    heard_is = heard;
    joins = λ counted others later h. joins_sure v others later h;
  }

  -- a loss that was counted, and the join after it
  pub counted_join : (xs ys zs : List (Message J)) (w : ℕ) (hs ks : List Bool) (v : Bool)
      → ys ≡ xs ++ message.Event (happened.Lost w) ∷ [] → zs ≡ ys ++ message.Event (happened.Joined w) ∷ [] → ks ≡ hs ++ v ∷ [] → v ≡ true → AddsCounted xs zs hs ks
  counted_join xs ys zs w hs ks v is next heard sure = record {
    stamps = LostBy w ∷ JoinedBy w ∷ [];
    added = ap stamps_in next ∙ stamps_event ys (happened.Joined w) ∙ ap (λ l. l ++ JoinedBy w ∷ []) (ap stamps_in is ∙ stamps_event xs (happened.Lost w))
        ∙ append_assoc (stamps_in xs) (LostBy w ∷ []) (JoinedBy w ∷ []);
    told = v ∷ [];
    heard_is = heard;
    joins = λ counted others later h. and_from v (joins_counted false others later) sure h;
  }

  -- all that was sent, with the bye
  pub counted_bye : (xs ys zs : List (Message J)) (hs ks : List Bool) (sender : Sender) → xs ≡ [] → hs ≡ [] → AddsCounted xs ys hs ks → zs ≡ ys ++ message.Bye sender ∷ []
      → joins_counted false ks (stamps_in zs) ≡ true
  counted_bye xs ys zs hs ks sender none silent p is =
      let heard : ks ≡ p.told ++ [] = p.heard_is ∙ ap (λ l. l ++ p.told) silent ∙ sym (append-nil p.told) in
      let sent : stamps_in zs ≡ p.stamps ++ [] = ap stamps_in is ∙ stamps_bye ys sender ∙ p.added ∙ ap (λ l. stamps_in l ++ p.stamps) none ∙ sym (append-nil p.stamps) in
      ap (λ l. joins_counted false l (stamps_in zs)) heard ∙ ap (λ l. joins_counted false (p.told ++ []) l) sent ∙ p.joins false [] [] refl
