-- The protocol of a channel with several senders and one reader. For each sender, the received messages followed by
-- those in the channel are what it sent. A sender's last message closes it, and nothing follows that.
use Rattle.std.specs.Prelude.{◌≡◌, ℕ, ◌<◌, ◌≤◌, Bool, true, false, ◌==◌, ◌||◌, List, [], ◌∷◌, ◌++◌, if◌then◌else◌}
use Rattle.std.specs.List.{filter}
use mathlib.Core.List.{IsPrefix}
use mathlib.Core.Option.{some}
use lib.ListN.{get_elem?}
use Rattle.hub_ends.specs.declared.view.View.{View}
use Rattle.hub_ends.specs.Views.{with_received}

-- the messages of sender p, in order
abbrev pub of : {M : Type 0} → (M → ℕ) → ℕ → List M → List M
of from p ms = filter (λ m. from m == p) ms

-- one of the messages closes their sender
abbrev pub has_bye : {M : Type 0} → (M → Bool) → List M → Bool
has_bye closes [] = false
has_bye closes (m ∷ ms) = closes m || has_bye closes ms

abbrev pub is_nil : {M : Type 0} → List M → Bool
is_nil [] = true
is_nil (m ∷ ms) = false

-- nothing follows it
abbrev pub is_bye_last : {M : Type 0} → (M → Bool) → List M → Bool
is_bye_last closes [] = true
is_bye_last closes (m ∷ ms) = if closes m then is_nil ms else is_bye_last closes ms

-- What was received from sender p is a beginning of what it sent, and all of it once its last message was received.
pub record IsOnceInOrder {M : Type 0} (from : M → ℕ) (closes : M → Bool) (p : ℕ) (sent received : List M) : Type 0 where
  pub begins : IsPrefix (of from p received) sent
  pub whole : has_bye closes (of from p received) ≡ true → of from p received ≡ sent

-- ---- the protocol

-- The state of a channel: the pass of each sender and of the reader, the number of senders, what was received, and what
-- all senders together sent.
pub record ChannelState (M : Type 0) : Type 0 where
  pub seat : ℕ → ℕ
  pub reader : ℕ
  pub senders : ℕ
  pub received : List M
  pub all : List M

-- this pass is the one of its sender, and knows what was sent
pub record FitsSender {M : Type 0} (from : M → ℕ) (closes : M → Bool) (s : ChannelState M) (pass : ℕ) (v : View M) : Type 0 where
  pub seat : s.seat v.from ≡ pass
  pub known : v.from < s.senders
  pub sent : of from v.from s.all ≡ v.sent
  pub last : is_bye_last closes v.sent ≡ true

-- this pass is the reader's, and knows what was received
pub record FitsReader {M : Type 0} (s : ChannelState M) (pass : ℕ) (v : View M) : Type 0 where
  pub seat : pass ≡ s.reader
  pub received : v.received ≡ s.received
  pub senders : v.senders ≡ s.senders

pub record FitsPass {M : Type 0} (from : M → ℕ) (closes : M → Bool) (s : ChannelState M) (pass : ℕ) (v : View M) : Type 0 where
  pub sends : v.sends ≡ true → FitsSender from closes s pass v
  pub reads : v.reads ≡ true → FitsReader s pass v

-- what each pass knows is so, and senders that do not exist have sent nothing
pub record Holds {M : Type 0} (from : M → ℕ) (closes : M → Bool) (s : ChannelState M) (views : List (View M)) : Type 0 where
  pub later : (p : ℕ) → s.senders ≤ p → of from p s.all ≡ []
  pub each : (pass : ℕ) (v : View M) → get_elem? views pass ≡ some v → FitsPass from closes s pass v

-- the protocol, of the messages in the channel and of what each pass knows
pub record Delivers {M : Type 0} (from : M → ℕ) (closes : M → Bool) (items : List M) (views : List (View M)) : Type 0 where
  pub standing : ChannelState M
  pub all : standing.all ≡ standing.received ++ items
  pub holds : Holds from closes standing views

-- the outcome of a receive: one more message was received, from a sender that exists
pub record Takes {M : Type 0} (from : M → ℕ) (v : View M) (m : M) (w : View M) : Type 0 where
  pub received : w ≡ with_received v m
  pub known : from m < v.senders
