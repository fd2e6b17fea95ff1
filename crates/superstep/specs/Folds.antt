-- Aggregation of contributions in aggregators (Pregel 2010, 3.3).
use Rattle.std.specs.Prelude.{ℕ, ℤ, pos, List, nat_lt, if◌then◌else◌, slice_index_or, slice_set}
use Rattle.std.specs.List.{fold}
use Rattle.std.specs.Int.{w64, int_wrapping_add, int_min, int_max, int_bit_or}
use Rattle.verified.specs.Aggregators.{aggregator_starts}

-- An aggregator's value with a contribution. Aggregators 0 and 1 keep the wrapping sum, 2 and 3 the least, 4 and 5 the greatest, and 6 and 7
-- the union of bits.
abbrev pub combined : ℕ → ℤ → ℤ → ℤ
combined aggregator old given =
    if nat_lt aggregator 2 then int_wrapping_add w64 old given
    else if nat_lt aggregator 4 then int_min old given
    else if nat_lt aggregator 6 then int_max old given
    else int_bit_or w64 old given

-- the aggregators after one contribution
abbrev pub give : List ℤ → ℕ × ℤ → List ℤ
give aggregators given = slice_set aggregators given.0 (combined given.0 (slice_index_or aggregators given.0 (pos 0)) given.1)

-- the aggregators after all contributions, in order
abbrev pub aggregated : List (ℕ × ℤ) → List ℤ
aggregated contributions = fold give aggregator_starts contributions
