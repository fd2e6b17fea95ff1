-- Letters by target, and those to one target by source.
use Rattle.std.specs.Prelude.{List}
use Rattle.std.specs.Ordering.{int_cmp, ordering_then}
use Rattle.std.specs.declared.cmp.Ordering.{Ordering}
use Rattle.std.specs.List.Sorted.{IsPermutation, IsStrictlySortedBy}
use Rattle.inbox.specs.declared.letters.Letter.{Letter}
use Rattle.inbox.specs.Merging.{source_cmp}

abbrev pub target_cmp : Letter → Letter → Ordering
target_cmp a b = ordering_then (int_cmp a.to b.to) (source_cmp a b)

-- the letters sorted by target: the same letters, each below the next
pub record IsByTarget (letters sorted : List Letter) : Type 0 where
  pub same : IsPermutation letters sorted
  pub rising : IsStrictlySortedBy target_cmp sorted
