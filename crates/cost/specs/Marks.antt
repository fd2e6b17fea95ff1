-- The result of the walk of the call graph: the rank and the size of each function of a module.
use Rattle.std.specs.Prelude.{ℕ, List, get_or}
use Rattle.cost.specs.declared.table.Mark.{Mark}
use Rattle.cost.specs.declared.table.Mark.TheVariants.{Unseen, Open, Done}

-- the mark of the function; an index without a mark has rank 0 and size 0
abbrev pub mark_at : List Mark → ℕ → Mark
mark_at ms f = get_or ms f (Done 0 0)

abbrev pub rank_in : Mark → ℕ
rank_in Unseen = 0
rank_in Open = 0
rank_in (Done rank size) = rank

abbrev pub size_in : Mark → ℕ
size_in Unseen = 0
size_in Open = 0
size_in (Done rank size) = size

abbrev pub rank_at : List Mark → ℕ → ℕ
rank_at ms f = rank_in (mark_at ms f)

abbrev pub size_at : List Mark → ℕ → ℕ
size_at ms f = size_in (mark_at ms f)
