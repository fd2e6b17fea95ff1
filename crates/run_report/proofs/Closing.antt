use Rattle.std.proofs.Common.{◌≡◌, ℕ, List, [], ◌∷◌, ◌++◌, Option, ap, refl}
use Rattle.run_report.specs.Tally.{closed, closed_from, less, rest_behind, with_dropped}
use Rattle.run_report.specs.declared.counts.SuperstepCounts.{SuperstepCounts}

closed_from-last : (counts : SuperstepCounts) (others : List SuperstepCounts) (last : SuperstepCounts) (dropped : Option ℕ) → closed_from counts (others ++ last ∷ []) dropped ≡ counts ∷ (others ++ with_dropped last (rest_behind (counts ∷ others) dropped) ∷ [])
closed_from-last counts [] last dropped = refl
closed_from-last counts (next ∷ others) last dropped =
    ap (λ behind. counts ∷ behind) (closed_from-last next others last (less dropped counts.dropped))

-- the last of all has what is left behind the others
pub closed-last : (others : List SuperstepCounts) (last : SuperstepCounts) (dropped : Option ℕ) → closed (others ++ last ∷ []) dropped ≡ others ++ with_dropped last (rest_behind others dropped) ∷ []
closed-last [] last dropped = refl
closed-last (counts ∷ others) last dropped = closed_from-last counts others last dropped
