-- The values of the aggregators before any contribution.
use Rattle.std.specs.Prelude.{ℤ, pos, negsuc, ◌-◌, ◌^◌, List, [], ◌∷◌}

abbrev pub greatest : ℤ
greatest = pos (2 ^ 63 - 1)

abbrev pub least : ℤ
least = negsuc (2 ^ 63 - 1)

-- the start of each aggregator: two sums, two minima, two maxima, two bitwise ors
abbrev pub aggregator_starts : List ℤ
aggregator_starts = pos 0 ∷ pos 0 ∷ greatest ∷ greatest ∷ least ∷ least ∷ pos 0 ∷ pos 0 ∷ []
