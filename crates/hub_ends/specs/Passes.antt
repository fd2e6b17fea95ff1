-- What passes and receipts show.
use Rattle.std.specs.Prelude.{◌≡◌, ℕ, List}
use Rattle.hub_ends.specs.ChannelEnds.{IsSameReader, IsSameSender, received_by, sent_by}
use Rattle.hub_ends.specs.declared.message.Message.{Message}
use Rattle.hub_ends.specs.declared.order.Order.{Order}
use Rattle.hub_ends.specs.declared.pass.TickPass.{TickPass}
use Rattle.hub_ends.specs.declared.pass.TickReceipt.{TickReceipt}
use Rattle.hub_ends.specs.declared.pass.WorkerPass.{WorkerPass}
use Rattle.hub_ends.specs.declared.pass.WorkerReceipt.{WorkerReceipt}

-- ---- a worker's

abbrev pub worker_of : {J : _} → WorkerPass J → ℕ
worker_of pass = pass.worker

-- what it sent, in order
abbrev pub handed_in : {J : _} → WorkerPass J → List (Message J)
handed_in pass = sent_by pass.events

-- what it took, in order
abbrev pub taken : {J : _} → WorkerPass J → List (Order J)
taken pass = received_by pass.orders

-- only what it sent and took may differ
pub record IsSamePass {J : _} (before after : WorkerPass J) : Type 0 where
  pub worker : after.worker ≡ before.worker
  pub events : IsSameSender before.events after.events
  pub orders : IsSameReader before.orders after.orders

-- all that it sent, its bye too
abbrev pub handed_in_by : {J : _} → WorkerReceipt J → List (Message J)
handed_in_by receipt = sent_by receipt.events

abbrev pub taken_by : {J : _} → WorkerReceipt J → List (Order J)
taken_by receipt = received_by receipt.orders

-- it is the receipt of this pass
pub record IsReceipt {J : _} (pass : WorkerPass J) (receipt : WorkerReceipt J) : Type 0 where
  pub worker : receipt.worker ≡ pass.worker
  pub events : IsSameSender pass.events receipt.events
  pub orders : IsSameReader pass.orders receipt.orders

-- ---- the ticker's

-- what it sent, in order
abbrev pub ticked : {J : _} → TickPass J → List (Message J)
ticked pass = sent_by pass.events

abbrev pub IsSameTicker : {J : _} → TickPass J → TickPass J → Type 0
IsSameTicker before after = IsSameSender before.events after.events

-- all that it sent, its bye too
abbrev pub ticked_by : {J : _} → TickReceipt J → List (Message J)
ticked_by receipt = sent_by receipt.events

abbrev pub IsTickReceipt : {J : _} → TickPass J → TickReceipt J → Type 0
IsTickReceipt pass receipt = IsSameSender pass.events receipt.events
