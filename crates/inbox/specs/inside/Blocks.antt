-- Messages by the block of ids in which their targets are.
use Rattle.std.specs.Prelude.{◌≡◌, ◌<◌, ℕ, ℤ, List, [], length, slice_index_or, Some}
use Rattle.std.specs.Global.{Vec}
use Rattle.inbox.specs.declared.blocks.Block.{Block}
use Rattle.inbox.specs.declared.grid.Grid.{Grid}
use Rattle.inbox.specs.declared.grid.Spot.{Spot}
use Rattle.inbox.specs.declared.letters.Letter.{Letter}
use Rattle.inbox.specs.declared.slips.Slip.{Slip}
use Rattle.inbox.specs.Merging.{inbox_of}
use Rattle.inbox.specs.inside.Grids.{AreOfBlock, spot_of}
use Rattle.inbox.specs.inside.Slips.{AreInboxesOf, messages_at}

abbrev pub ids_of : Block → List ℕ
ids_of block = block.ids.now

abbrev pub slips_of : Block → List Slip
slips_of block = block.slips

abbrev pub none_in : List Slip → Type 0
none_in slips = slips ≡ []

-- the messages to an id, at its place among those of its block, are the messages to it of these letters
abbrev pub AreFiled : Grid → List Letter → List (List Slip) → Type 0
AreFiled grid sent blocks = (id : ℕ) (spot : Spot) → spot_of grid id ≡ Some spot → spot.block < length blocks
    → messages_at spot.place (slice_index_or blocks spot.block []) ≡ inbox_of sent id

-- each block has the ids of its number
abbrev pub AreInPlace : Grid → List (List ℕ) → Type 0
AreInPlace grid blocks = (k : ℕ) → k < length blocks → AreOfBlock grid k (slice_index_or blocks k [])

-- these are the inboxes of a block's ids, made of its messages
abbrev pub IsMade : Block → Vec (List ℤ) → Type 0
IsMade block inboxes = AreInboxesOf (slips_of block) (length (ids_of block)) inboxes.items
