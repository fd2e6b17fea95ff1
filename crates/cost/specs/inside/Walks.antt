-- The progress of a walk of the call graph.
use Rattle.std.specs.Prelude.{◌≡◌, ℕ, ◌+◌, ◌≤◌, min, List, length, sum_by}
use Rattle.cost.specs.declared.table.Mark.{Mark}
use Rattle.cost.specs.declared.table.Mark.TheVariants.{Unseen, Open, Done}
use Rattle.cost.specs.declared.outline.Outlines.{Outlines}
use Rattle.verified.specs.Calls.{Calls}
use Rattle.cost.specs.Marks.{mark_at, rank_at, size_at}
use Rattle.cost.specs.inside.Outline.{cap}
use Rattle.cost.specs.inside.Outlines.{count_of, outline_at, height_at, called, AreSizesOf}

abbrev pub IsDone : Mark → Type 0
IsDone Unseen = ⊥
IsDone Open = ⊥
IsDone (Done rank size) = Unit {0}

abbrev pub unseen_weight : Mark → ℕ
unseen_weight Unseen = 1
unseen_weight Open = 0
unseen_weight (Done rank size) = 0

-- how many are unseen
abbrev pub unseen : List Mark → ℕ
unseen ms = sum_by unseen_weight ms

abbrev pub unfinished_weight : Mark → ℕ
unfinished_weight Unseen = 1
unfinished_weight Open = 1
unfinished_weight (Done rank size) = 0

-- how many are not done
abbrev pub unfinished : List Mark → ℕ
unfinished ms = sum_by unfinished_weight ms

-- each function that is done has its rank and its size, and so have all that it calls
pub record Settled (os : Outlines) (ms : List Mark) : Type 0 where
  pub long : length ms ≡ count_of os
  pub closed : (f g : ℕ) → IsDone (mark_at ms f) → Calls (called os) f g → IsDone (mark_at ms g)
  pub high : (f : ℕ) → IsDone (mark_at ms f) → rank_at ms f ≡ height_at (rank_at ms) (outline_at os f)
  pub sized : (sizes : ℕ → ℕ) → AreSizesOf os sizes →
      (f : ℕ) → IsDone (mark_at ms f) → size_at ms f ≡ min cap (sizes f)
  -- a rank is at most the number of functions that are done
  pub below : (f : ℕ) → rank_at ms f + unfinished ms ≤ length ms

-- the walk from f has gone from ms to ns
pub record Walked (os : Outlines) (f : ℕ) (ms ns : List Mark) : Type 0 where
  pub settled : Settled os ns
  pub done : IsDone (mark_at ns f)
  pub kept : (g : ℕ) → (mark_at ms g ≡ Unseen → ⊥) → mark_at ns g ≡ mark_at ms g
  pub opened : (g : ℕ) → mark_at ns g ≡ Open → mark_at ms g ≡ Open
  pub fewer : unseen ns ≤ unseen ms

-- all functions are done
pub record Finished (os : Outlines) (ms : List Mark) : Type 0 where
  pub settled : Settled os ms
  pub done : (f : ℕ) → IsDone (mark_at ms f)
