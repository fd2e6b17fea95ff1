-- The sender of a message, which message is a sender's last, and which come after a loss.
use Rattle.std.specs.Prelude.{◌≡◌, ℕ, ◌+◌, List, [], ◌∷◌, ◌++◌, Bool, true, false, ◌&&◌, ◌||◌, not}
use Rattle.control.specs.declared.event.Event.{Event}
use Rattle.control.specs.declared.event.Event.TheVariants.{Done, Failed, Joined, Lost, Tick}
use Rattle.hub_ends.specs.declared.message.Message.{Message}
use Rattle.hub_ends.specs.declared.message.Message.TheVariants as message
use Rattle.hub_ends.specs.declared.message.Sender.{Sender}
use Rattle.hub_ends.specs.declared.message.Sender.TheVariants.{Ticker, Worker}

-- The senders to the coordinator are numbered: the ticker is 0, and worker w is w + 1.
abbrev pub sender_number : Sender → ℕ
sender_number Ticker = 0
sender_number (Worker w) = w + 1

-- the sender of an event
abbrev pub event_sender : {J : _} → Event J → ℕ
event_sender (Done w done) = w + 1
event_sender (Failed w place) = w + 1
event_sender (Lost w) = w + 1
event_sender (Joined w) = w + 1
event_sender Tick = 0

abbrev pub sender_of : {J : _} → Message J → ℕ
sender_of (message.Event event) = event_sender event
sender_of (message.Bye sender) = sender_number sender

-- it is its sender's last
abbrev pub closes : {J : _} → Message J → Bool
closes (message.Event event) = false
closes (message.Bye sender) = true

abbrev pub is_lost : {J : _} → Event J → Bool
is_lost (Done w done) = false
is_lost (Failed w place) = false
is_lost (Lost w) = true
is_lost (Joined w) = false
is_lost Tick = false

abbrev pub is_joined : {J : _} → Event J → Bool
is_joined (Done w done) = false
is_joined (Failed w place) = false
is_joined (Lost w) = false
is_joined (Joined w) = true
is_joined Tick = false

-- each `Joined` comes right after a `Lost`, and so does the first message where `lost` says so
abbrev pub joins_follow : {J : _} → (lost : Bool) → List (Message J) → Bool
joins_follow lost [] = true
joins_follow lost (message.Event event ∷ messages) = (not (is_joined event) || lost) && joins_follow (is_lost event) messages
joins_follow lost (message.Bye sender ∷ messages) = joins_follow false messages

-- more messages, in which each `Joined` comes right after a `Lost`
pub record AddsJoins {J : _} (before after : List (Message J)) : Type 0 where
  pub more : List (Message J)
  pub added : after ≡ before ++ more
  pub joins : (lost : Bool) → joins_follow lost more ≡ true
