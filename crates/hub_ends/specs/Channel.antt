-- The identity of a channel, and its room.
use Rattle.std.specs.Prelude.{ℕ, Option}
use Rattle.std.specs.Global.{Global}
use Rattle.atomic_table.specs.declared.badge.Badge.{Badge}
use Rattle.crossbeam_channel.specs.Ends.{ruled_capacity}
use Rattle.crossbeam_channel.specs.declared.flavors.array.Doing.{Doing}
use Rattle.crossbeam_channel.specs.declared.flavors.array.Key.{Key}
use Rattle.crossbeam_channel.specs.declared.flavors.array.Lockers.{Lockers}
use Rattle.crossbeam_channel.specs.declared.flavors.array.Rounds.{Rounds}
use Rattle.crossbeam_channel.specs.declared.flavors.array.Rows.{Rows}
use Rattle.crossbeam_channel.specs.declared.flavors.array.Whole.{Whole}
use Rattle.hub_ends.specs.declared.protocol.InOrder.{InOrder}
use Rattle.hub_ends.specs.declared.view.View.{View}

abbrev pub Channel : Type 0 → Type 0
Channel M = Rows (Badge (Key M)) (Doing M (View M)) (Rounds InOrder) (Option M) (Key M) (Lockers Whole) Global

-- the number of messages that it holds at most
abbrev pub room_of : {M : Type 0} → Channel M → ℕ
room_of channel = ruled_capacity channel
