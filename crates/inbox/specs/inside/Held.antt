-- The messages of an inbox, in either place.
use Rattle.std.specs.Prelude.{◌≤◌, ℤ, List, take}
use Rattle.inbox.specs.declared.inboxes.Held.{Held}
use Rattle.inbox.specs.declared.inboxes.Held.TheVariants.{Here, Apart}

-- the messages
abbrev pub messages_of : Held → List ℤ
messages_of (Here here) = take here.count here.messages
messages_of (Apart messages) = messages.items

abbrev pub IsHeld : Held → Type 0
IsHeld (Here here) = here.count ≤ 4
IsHeld (Apart messages) = Unit {0}
