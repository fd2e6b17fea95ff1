-- Letters that are filed by blocks of ids, or sorted by target, and the inboxes that are made of them.
use Rattle.std.specs.Prelude.{◌≡◌, ℕ, true, Contains, List, filter, length, map, sum_by}
use Rattle.std.specs.Global.{Vec}
use Rattle.std.specs.List.{AllByRecursion, AllZip, flat_map}
use Rattle.inbox.specs.declared.all_parts.Delivered.{Delivered}
use Rattle.inbox.specs.declared.all_parts.Filed.{Filed}
use Rattle.inbox.specs.declared.all_parts.Filed.TheVariants.{InBlocks, ByTarget}
use Rattle.inbox.specs.declared.all_parts.Sorted.{Sorted}
use Rattle.inbox.specs.declared.filing.PartBlocks.{PartBlocks}
use Rattle.inbox.specs.declared.grid.Grid.{Grid}
use Rattle.inbox.specs.declared.letters.Letter.{Letter}
use Rattle.inbox.specs.declared.shares.Share.{Share}
use Rattle.inbox.specs.declared.shares.TargetSet.{TargetSet}
use Rattle.inbox.specs.Merging.{IsBySource, inboxes_of}
use Rattle.inbox.specs.inside.Blocks.{AreFiled, AreInPlace, ids_of, slips_of}
use Rattle.inbox.specs.inside.Shares.{AreDelivered, goes_into, has, parts_of}
use Rattle.inbox.specs.inside.Targets.{IsByTarget}

-- The letters are filed by source, in the blocks of these ids.
pub record AreInBlocks (letters : List Letter) (ids : Vec ℕ) (part : PartBlocks) : Type 0 where
  pub whole : flat_map ids_of part.blocks.items ≡ ids.items
  pub grid : Grid
  pub places : AreInPlace grid (map ids_of part.blocks.items)
  pub sent : List Letter
  pub by : IsBySource letters sent
  pub filed : AreFiled grid sent (map slips_of part.blocks.items)

-- Some of the letters, with all that go to the set's targets.
pub record AreSomeOf (letters : List Letter) (target_set : TargetSet) (some : List Letter) : Type 0 where
  pub among : (letter : Letter) → Contains some letter → Contains letters letter
  pub all : (letter : Letter) → Contains letters letter → goes_into target_set letter ≡ true → Contains some letter

-- the ids of all parts are targets of the set
abbrev pub AreWithin : TargetSet → List (Vec ℕ) → Type 0
AreWithin target_set parts = AllByRecursion (λ ids. AllByRecursion (λ id. has target_set id ≡ true) ids.items) parts

-- The letters to a share's ids are filed by blocks.
pub record AreByBlock (letters : List Letter) (share : Share) (filed : Vec PartBlocks) : Type 0 where
  pub target_set : TargetSet
  pub within : AreWithin target_set share.parts.now
  pub some : List Letter
  pub are : AreSomeOf letters target_set some
  pub each : AllZip (AreInBlocks some) share.parts.now filed.items

-- The letters to a share's ids are sorted by target.
pub record AreByTarget (letters : List Letter) (share : Share) (filed : Sorted) : Type 0 where
  pub target_set : TargetSet
  pub within : AreWithin target_set share.parts.now
  pub by : IsByTarget (filter (goes_into target_set) letters) filed.letters.items
  pub same : filed.parts.now ≡ share.parts.now

-- the letters to a share's ids are filed, in either way
unfoldable pub IsFiled : List Letter → Share → Filed → Type 0
IsFiled letters share (InBlocks filed) = AreByBlock letters share filed
IsFiled letters share (ByTarget filed) = AreByTarget letters share filed

-- The letters to the ids of all parts are filed, by shares.
pub record AreAllFiled (letters : List Letter) (ids : List (Vec ℕ)) (filed : List Filed) : Type 0 where
  pub shares : List Share
  pub whole : flat_map parts_of shares ≡ ids
  pub each : AllZip (IsFiled letters) shares filed

-- These are the inboxes that a part's blocks make, and the number of their messages.
pub record IsMadeFrom (part : PartBlocks) (delivered : Delivered) : Type 0 where
  pub inboxes : (letters : List Letter) (ids : Vec ℕ) (are : AreInBlocks letters ids part) → delivered.inboxes.items ≡ inboxes_of are.sent ids.items
  pub count : delivered.count ≡ sum_by length delivered.inboxes.items

-- What is made of a filed share is what goes to its parts of all letters.
pub record IsMadeOf (filed : Filed) (all : Vec Delivered) : Type 0 where
  pub made : (letters : List Letter) (share : Share) → IsFiled letters share filed → AreDelivered letters share all
