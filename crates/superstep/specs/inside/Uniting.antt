-- The aggregators of two groups of contributions, combined.
use Rattle.std.specs.Prelude.{ℕ, ℤ, pos, List, map, filter, slice_index_or, ◌==◌}
use Rattle.std.specs.List.{range_with_len}
use Rattle.superstep.specs.Folds.{combined}

-- aggregator by aggregator, the values of both, combined
unfoldable pub united : List ℤ → List ℤ → List ℤ
united one other = map (λ aggregator. combined aggregator (slice_index_or one aggregator (pos 0)) (slice_index_or other aggregator (pos 0))) (range_with_len 0 8)

-- the contributions to an aggregator, in order
abbrev pub given_at : ℕ → List (ℕ × ℤ) → List ℤ
given_at aggregator contributions = map (λ (given : ℕ × ℤ). given.1) (filter (λ (given : ℕ × ℤ). given.0 == aggregator) contributions)
