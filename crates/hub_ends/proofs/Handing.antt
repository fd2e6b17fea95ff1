-- What stays of a hub.
use Rattle.std.proofs.Common.{◌≡◌, ◌∙◌, List, length, refl, arith}
use Rattle.hub_ends.specs.Channel.{Channel}
use Rattle.hub_ends.specs.TaskChannels.{sent_on}
use Rattle.hub_ends.specs.declared.order.Order.{Order}
use Rattle.hub_ends.proofs.Handed.{length_map}
use Rattle.hub_ends.specs.Hub.{Channels, IsSameHub, handed, staff}
use Rattle.hub_ends.specs.declared.coordinator_ends.CoordinatorEnds.{CoordinatorEnds}
use Rattle.hub_ends.specs.declared.message.Message.{Message}

module _ {J : Type 0} where
  pub hub_same : (a : CoordinatorEnds J) → IsSameHub a a
  hub_same a = record { channels = refl; workers = refl }

  pub hub_then : {a b c : CoordinatorEnds J} → IsSameHub a b → IsSameHub b c → IsSameHub a c
  hub_then p q = record { channels = q.channels ∙ p.channels; workers = q.workers ∙ p.workers }

  pub handed_len : (a : CoordinatorEnds J) → length (handed a) ≡ staff a
  handed_len a = omega (arith, a.task_channels.ok.0, length_map sent_on a.task_channels.items)

  pub handed_wide : (a b : CoordinatorEnds J) → staff b ≡ staff a → length (handed b) ≡ length (handed a)
  handed_wide a b e = omega (arith, e, handed_len a, handed_len b)

  pub channels_as : (e e' : Channel (Message J)) (os os' : List (Channel (Order J))) → e' ≡ e → os' ≡ os
      → ◌≡◌ {A = Channels J} (record { events = e'; orders = os' }) (record { events = e; orders = os })
  channels_as e e' os os' p q i = record { events = p i; orders = q i }
