-- Lists of letters and outboxes that are read side by side, by source.
use Rattle.std.specs.Prelude.{◌≡◌, ◌<◌, ◌≤◌, ◌++◌, ℕ, List, length}
use Rattle.std.specs.List.{AllByRecursion, flat_map}
use Rattle.std.specs.List.Sorted.{IsPermutation, IsStrictlySortedBy}
use Rattle.inbox.specs.declared.slips.Slip.{Slip}
use Rattle.inbox.specs.declared.grid.Grid.{Grid}
use Rattle.inbox.specs.declared.letters.Letter.{Letter}
use Rattle.inbox.specs.declared.streams.Rest.{Rest}
use Rattle.inbox.specs.declared.streams.Rest.TheVariants.{OfList, OfOutbox}
use Rattle.inbox.specs.declared.streams.Run.{Run}
use Rattle.inbox.specs.declared.streams.Run.TheVariants.{Letters, Sends}
use Rattle.inbox.specs.declared.streams.Streams.{Streams}
use Rattle.inbox.specs.declared.streams.Taken.{Taken}
use Rattle.inbox.specs.Merging.{letters_sent, source_cmp}
use Rattle.inbox.specs.inside.Blocks.{AreFiled}
use Rattle.inbox.specs.inside.Outboxes.{unread_letters}

-- the letters that are not taken
abbrev pub left_in : Rest → List Letter
left_in (OfList letters) = letters.now
left_in (OfOutbox unread) = unread_letters unread

-- the letters of all lists and outboxes that are not taken
abbrev pub all_left : Streams → List Letter
all_left streams = flat_map left_in streams.rests.items

abbrev pub run_letters : Run → List Letter
run_letters (Letters letters) = letters.now
run_letters (Sends id sends) = letters_sent id sends.now

-- A run of one source is taken from the front of these letters: its letters rise, and its source is this least one or above.
pub record IsTaken (letters : List Letter) (least : ℕ) (taken : Taken) : Type 0 where
  pub some : 0 < length (run_letters taken.run)
  pub whole : run_letters taken.run ++ left_in taken.rest ≡ letters
  pub rising : IsStrictlySortedBy source_cmp (run_letters taken.run)
  pub late : least ≤ taken.source
  pub own : AllByRecursion (λ letter. letter.from ≡ taken.source) (run_letters taken.run)

-- The run is taken: its letters rise, and their sources are those from one least source on and below the next one.
pub record IsNextRun (left : List Letter) (least : ℕ) (run later : List Letter) (next : ℕ) : Type 0 where
  pub some : 0 < length run
  pub same : IsPermutation left (run ++ later)
  pub rising : IsStrictlySortedBy source_cmp run
  pub late : AllByRecursion (λ letter. least ≤ letter.from) run
  pub early : AllByRecursion (λ letter. letter.from < next) run

-- Some of the letters are filed by source, and these are left.
pub record AreFiledSoFar (letters : List Letter) (grid : Grid) (left : List Letter) (least : ℕ) (blocks : List (List Slip)) : Type 0 where
  pub sent : List Letter
  pub same : IsPermutation letters (sent ++ left)
  pub rising : IsStrictlySortedBy source_cmp sent
  pub early : AllByRecursion (λ letter. letter.from < least) sent
  pub filed : AreFiled grid sent blocks
