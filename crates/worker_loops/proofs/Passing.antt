-- Passes that are used one after another.
use Rattle.std.proofs.lemmas.Bool.{and_from, and_parts}
use Rattle.std.proofs.Common.{◌≡◌, ◌∙◌, Bool, true, false, List, [], ◌∷◌, ◌++◌, append_assoc, ap, refl, sym, Result, Ok, Err, IfOk}
use Rattle.job_state.specs.declared.fault.JobFault.{JobFault}
use mathlib.Core.List.{append-nil}
use Rattle.std.specs.Prelude.{◌||◌, not}
use Rattle.control.specs.declared.event.Event.{Event}
use Rattle.hub_ends.specs.Messages.{AddsJoins, is_joined, is_lost, joins_follow}
use Rattle.hub_ends.specs.declared.message.Message.{Message}
use Rattle.hub_ends.specs.declared.message.Message.TheVariants as message
use Rattle.hub_ends.specs.ChannelEnds.{IsSameReader, IsSameSender}
use Rattle.hub_ends.specs.Passes.{IsReceipt, IsSamePass, handed_in_by}
use Rattle.worker_loops.specs.Counted.{JoinsAfterLoss}
use Rattle.hub_ends.specs.declared.channel_ends.ReceivingEnd.{ReceivingEnd}
use Rattle.hub_ends.specs.declared.channel_ends.SendingEnd.{SendingEnd}
use Rattle.hub_ends.specs.declared.pass.WorkerPass.{WorkerPass}
use Rattle.hub_ends.specs.declared.pass.WorkerReceipt.{WorkerReceipt}

module _ {M : Type 0} where
  pub sender_same : (a : SendingEnd M) → IsSameSender a a
  sender_same a = record { channel_is = refl; number_is = refl }

  pub sender_then : {a b c : SendingEnd M} → IsSameSender a b → IsSameSender b c → IsSameSender a c
  sender_then p q = record { channel_is = q.channel_is ∙ p.channel_is; number_is = q.number_is ∙ p.number_is }

  pub reader_same : (a : ReceivingEnd M) → IsSameReader a a
  reader_same a = record { channel_is = refl; senders_are = refl }

  pub reader_then : {a b c : ReceivingEnd M} → IsSameReader a b → IsSameReader b c → IsSameReader a c
  reader_then p q = record { channel_is = q.channel_is ∙ p.channel_is; senders_are = q.senders_are ∙ p.senders_are }

module _ {J : Type 0} where
  pub pass_same : (a : WorkerPass J) → IsSamePass a a
  pass_same a = record { worker = refl; events = sender_same a.events; orders = reader_same a.orders }

  pub pass_then : {a b c : WorkerPass J} → IsSamePass a b → IsSamePass b c → IsSamePass a c
  pass_then p q = record {
    worker = q.worker ∙ p.worker;
    events = sender_then p.events q.events;
    orders = reader_then p.orders q.orders;
  }

  pub receipt_then : {a b : WorkerPass J} {c : WorkerReceipt J} → IsSamePass a b → IsReceipt b c → IsReceipt a c
  receipt_then p q = record {
    worker = q.worker ∙ p.worker;
    events = sender_then p.events q.events;
    orders = reader_then p.orders q.orders;
  }

-- ---- what comes after a loss

module _ {J : Type 0} where
  follow_then : (lost : Bool) (xs ys : List (Message J)) → joins_follow lost xs ≡ true → ((b : Bool) → joins_follow b ys ≡ true) → joins_follow lost (xs ++ ys) ≡ true
  follow_then lost [] ys h k = k lost
  follow_then lost (message.Event event ∷ xs) ys h k =
      let both = and_parts (not (is_joined event) || lost) (joins_follow (is_lost event) xs) h in
      and_from (not (is_joined event) || lost) (joins_follow (is_lost event) (xs ++ ys)) both.0 (follow_then (is_lost event) xs ys both.1 k)
  follow_then lost (message.Bye sender ∷ xs) ys h k = follow_then false xs ys h k

  pub joins_none : (xs : List (Message J)) → AddsJoins xs xs
  joins_none xs = record { more = []; added = sym (append-nil xs); joins = λ lost. refl }

  pub joins_then : {a b c : List (Message J)} → AddsJoins a b → AddsJoins b c → AddsJoins a c
  joins_then {a = a} p q = record {
    more = p.more ++ q.more;
    added = q.added ∙ ap (λ l. l ++ q.more) p.added ∙ append_assoc a p.more q.more;
    joins = λ lost. follow_then lost p.more q.more (p.joins lost) q.joins;
  }

  -- one message more, which joins nobody
  pub joins_event : (xs ys : List (Message J)) (event : Event J) → ys ≡ xs ++ message.Event event ∷ [] → is_joined event ≡ false → AddsJoins xs ys
  joins_event xs ys event is none = record { more = message.Event event ∷ []; added = is; joins = λ lost. rw none refl }

  pub joins_more : (xs ys : List (Message J)) (m : Message J) → ys ≡ xs ++ m ∷ [] → ((lost : Bool) → joins_follow lost (m ∷ []) ≡ true) → AddsJoins xs ys
  joins_more xs ys m is none = record { more = m ∷ []; added = is; joins = none }

  -- a loss, and the join after it
  pub joins_pair : (xs ys zs : List (Message J)) (m n : Message J) → ys ≡ xs ++ m ∷ [] → zs ≡ ys ++ n ∷ [] → ((lost : Bool) → joins_follow lost (m ∷ n ∷ []) ≡ true) → AddsJoins xs zs
  joins_pair xs ys zs m n is next none = record {
    more = m ∷ n ∷ [];
    added = next ∙ ap (λ l. l ++ n ∷ []) is ∙ append_assoc xs (m ∷ []) (n ∷ []);
    joins = none;
  }

  -- all that was sent
  pub joins_all : (xs ys : List (Message J)) → xs ≡ [] → AddsJoins xs ys → joins_follow false ys ≡ true
  joins_all xs ys none p = ap (λ l. joins_follow false l) (p.added ∙ ap (λ l. l ++ p.more) none) ∙ p.joins false

  -- all that was sent, with the bye
  pub joins_bye : (r : Result (WorkerReceipt J) JobFault) (xs ys : List (Message J)) (m : Message J) → xs ≡ [] → AddsJoins xs ys
      → IfOk r (λ receipt. handed_in_by receipt ≡ ys ++ m ∷ []) → ((lost : Bool) → joins_follow lost (m ∷ []) ≡ true) → IfOk r JoinsAfterLoss
  joins_bye (Ok receipt) xs ys m none p is last = joins_all xs (handed_in_by receipt) none (joins_then p (joins_more ys (handed_in_by receipt) m is last))
  joins_bye (Err fault) xs ys m none p is last = tt
