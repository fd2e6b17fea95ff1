-- Extents in order: what holds of the last one that begins at a byte or before it.
use Rattle.std.proofs.Common.{◌≡◌, ℕ, zero, suc, ◌+◌, ◌-◌, ◌<◌, ◌≤◌, min, List, [], ◌∷◌, length, get_or, true, false, refl, arith}
use Rattle.std.specs.Prelude.{leb}
use Rattle.std.specs.List.Sorted.{IsNonDecreasingBy, IsPartitionPoint}
use Rattle.std.proofs.lemmas.Bool.{leb-true, leb-false}
use Rattle.verified.specs.declared.extents.Extent.{Extent}
use Rattle.verified.specs.inside.Extents.{in_extents, AreInOrder, PartsAt}

-- ---- the last one that begins at a byte or before it

all_past : (ss : List Extent) (low below : ℕ) → AreInOrder low below ss → (j : ℕ) (d : Extent) → j < length ss → low ≤ (get_or ss j d).from
all_past [] low below h j d l = absurd (omega arith)
all_past (s ∷ ss) low below h zero d l = h.0
all_past (s ∷ ss) low below h (suc j) d l =
    let others = all_past ss s.to (below + (s.to - s.from)) h.3 j d (omega arith) in
    let first = h.0 in
    let ends = h.1 in
    omega (arith, others, first, ends)

rises : (ss : List Extent) (low below : ℕ) → AreInOrder low below ss → (i j : ℕ) (d : Extent) → i ≤ j → j < length ss → (get_or ss i d).from ≤ (get_or ss j d).from
rises [] low below h i j d le l = absurd (omega arith)
rises (s ∷ ss) low below h zero zero d le l = omega arith
rises (s ∷ ss) low below h zero (suc j) d le l =
    let others = all_past ss s.to (below + (s.to - s.from)) h.3 j d (omega arith) in
    let ends = h.1 in
    omega (arith, others, ends)
rises (s ∷ ss) low below h (suc i) zero d le l = absurd (omega arith)
rises (s ∷ ss) low below h (suc i) (suc j) d le l = rises ss s.to (below + (s.to - s.from)) h.3 i j d (omega arith) (omega arith)

pub rising : (ss : List Extent) → AreInOrder 0 0 ss → IsNonDecreasingBy (λ (s : Extent). s.from) ss
rising ss h i j d le l = rises ss 0 0 h i j d le l

-- no extent that begins after the byte has bytes below it
pub beyond : (ss : List Extent) (low below b : ℕ) → AreInOrder low below ss → ((j : ℕ) (d : Extent) → j < length ss → b < (get_or ss j d).from) → in_extents ss b ≡ 0
beyond [] low below b h past = refl
beyond (s ∷ ss) low below b h past =
    let here = past 0 s (omega arith) in
    let ends = h.1 in
    let others = beyond ss s.to (below + (s.to - s.from)) b h.3 (λ j d l. past (suc j) d (omega arith)) in
    omega (arith, here, ends, others)

pub at_point : (ss : List Extent) (low below b k : ℕ) (d : Extent) → AreInOrder low below ss → k < length ss → ((j : ℕ) (e : Extent) → j ≤ k → (get_or ss j e).from ≤ b) → ((j : ℕ) (e : Extent) → k < j → j < length ss → b < (get_or ss j e).from) → ((get_or ss k d).from ≤ (get_or ss k d).to) × ((get_or ss k d).below + (min b (get_or ss k d).to - (get_or ss k d).from) ≡ below + in_extents ss b)
at_point [] low below b k d h l under past = absurd (omega arith)
at_point (s ∷ ss) low below b zero d h l under past =
    let here = under 0 s (omega arith) in
    let ends = h.1 in
    let told = h.2 in
    let others = beyond ss s.to (below + (s.to - s.from)) b h.3 (λ j e m. past (suc j) e (omega arith) (omega arith)) in
    (ends, omega (arith, here, ends, told, others))
at_point (s ∷ ss) low below b (suc k) d h l under past =
    let next = at_point ss s.to (below + (s.to - s.from)) b k d h.3 (omega arith) (λ j e m. under (suc j) e (omega arith)) (λ j e m n. past (suc j) e (omega arith) (omega arith)) in
    let second = under 1 s (omega arith) in
    let follows = all_past ss s.to (below + (s.to - s.from)) h.3 0 s (omega arith) in
    let ends = h.1 in
    let sum = next.1 in
    (next.0, omega (arith, sum, second, follows, ends))

pub few : (ss : List Extent) (low below b : ℕ) → AreInOrder low below ss → in_extents ss b ≤ b - low
few [] low below b h = omega arith
few (s ∷ ss) low below b h =
    let first = h.0 in
    let ends = h.1 in
    let others = few ss s.to (below + (s.to - s.from)) b h.3 in
    omega (arith, first, ends, others)

-- ---- the place that a search finds

pub parts_at : (ss : List Extent) (b count : ℕ) → count ≤ length ss → IsPartitionPoint (λ (s : Extent). leb s.from b ≡ true) (λ (s : Extent). leb s.from b ≡ false) ss count → PartsAt ss b count
parts_at ss b count bound point = record {
  bound = bound;
  before = λ k d l. leb-true (get_or ss k d).from b (point.0 k d (omega arith) l);
  behind = λ k d le l. leb-false (get_or ss k d).from b (point.1 k d le l);
}

pub none_before : (ss : List Extent) (b count : ℕ) → AreInOrder 0 0 ss → PartsAt ss b count → count ≡ 0 → in_extents ss b ≡ 0
none_before ss b count order parts none =
    beyond ss 0 0 b order (λ j d l. parts.behind j d (omega (arith, none)) l)

-- where the last extent before the byte has this many bytes below it
abbrev pub TellsBelow : List Extent → ℕ → Extent → Type 0
TellsBelow ss b s = (s.from ≤ s.to) × (s.from ≤ b) × (s.below + (min b s.to - s.from) ≡ in_extents ss b)

pub last_before : (ss : List Extent) (b count : ℕ) (d : Extent) → AreInOrder 0 0 ss → PartsAt ss b count → 0 < count → TellsBelow ss b (get_or ss (count - 1) d)
last_before ss b count d order parts some =
    let bound = parts.bound in
    let under : (j : ℕ) (e : Extent) → j ≤ count - 1 → (get_or ss j e).from ≤ b = λ j e le. parts.before j e (omega (arith, le, some)) in
    let past : (j : ℕ) (e : Extent) → count - 1 < j → j < length ss → b < (get_or ss j e).from = λ j e lt l. parts.behind j e (omega (arith, lt)) l in
    let p = at_point ss 0 0 b (count - 1) d order (omega (arith, some, bound)) under past in
    let sum = p.1 in
    (p.0, under (count - 1) d (omega arith), omega (arith, sum))
