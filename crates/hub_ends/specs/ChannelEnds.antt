-- What the ends of a channel show.
use Rattle.std.specs.Prelude.{◌≡◌, ℕ, List, []}
use Rattle.crossbeam_channel.specs.Claims.{view}
use Rattle.crossbeam_channel.specs.Ends.{sends_on, receives_on}
use Rattle.hub_ends.specs.declared.channel_ends.SendingEnd.{SendingEnd}
use Rattle.hub_ends.specs.declared.channel_ends.ReceivingEnd.{ReceivingEnd}
use Rattle.hub_ends.specs.Channel.{Channel}

module _ {M : Type 0} where
  -- ---- a sender's end: its channel, its number there, and what it sent, in order

  abbrev pub channel_of : SendingEnd M → Channel M
  channel_of end = sends_on end.to

  abbrev pub number_of : SendingEnd M → ℕ
  number_of end = (view end.pass).from

  abbrev pub sent_by : SendingEnd M → List M
  sent_by end = (view end.pass).sent

  -- ---- the reader's end: its channel, how many senders that has, and what was received, in order

  abbrev pub source_of : ReceivingEnd M → Channel M
  source_of end = receives_on end.from

  abbrev pub senders_of : ReceivingEnd M → ℕ
  senders_of end = (view end.pass).senders

  abbrev pub received_by : ReceivingEnd M → List M
  received_by end = (view end.pass).received

  -- the sender of this number, which has sent nothing
  pub record IsNewSender (channel : Channel M) (n : ℕ) (end : SendingEnd M) : Type 0 where
    pub channel_is : channel_of end ≡ channel
    pub number_is : number_of end ≡ n
    pub nothing : sent_by end ≡ []

  -- nothing but what was sent may differ
  pub record IsSameSender (before after : SendingEnd M) : Type 0 where
    pub channel_is : channel_of after ≡ channel_of before
    pub number_is : number_of after ≡ number_of before

  -- nothing but what was received may differ
  pub record IsSameReader (before after : ReceivingEnd M) : Type 0 where
    pub channel_is : source_of after ≡ source_of before
    pub senders_are : senders_of after ≡ senders_of before
