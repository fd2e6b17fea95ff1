-- Extents in order, and one more after them.
use Rattle.std.proofs.Common.{◌≡◌, ◌⊎◌, inl, inr, ℕ, suc, ◌+◌, ◌-◌, ◌<◌, ◌≤◌, min, List, [], ◌∷◌, ◌++◌, length, get_or, replicate, Bool, true, false, cond, refl, sym, ap, ◌∙◌, subst, arith}
use Rattle.wasm_ast.specs.declared.module.Module.{Module}
use Rattle.verified.specs.declared.extents.Extent.{Extent}
use Rattle.verified.specs.Memory.{memory_bytes}
use Rattle.verified.specs.Reached.{accesses}
use Rattle.bounded_profile.specs.inside.Footprint.{marked_all, marked_below, AreExtents, IsUpTo, Adds, end_of, size_of}
use Rattle.verified.specs.inside.Extents.{in_extent, in_extents, AreInOrder, TellReached}
use Rattle.bounded_profile.proofs.Leveling.{least_or_past}
use Rattle.bounded_profile.proofs.ReachedFootprint.{marked_past, below_tells}

-- ---- one more

pub order_more : (ss : List Extent) (low below : ℕ) (s : Extent) → AreInOrder low below ss → end_of low ss ≤ s.from → s.from ≤ s.to → s.below ≡ size_of below ss → AreInOrder low below (ss ++ s ∷ [])
order_more [] low below s h behind ends told = (behind, ends, told, tt)
order_more (t ∷ ss) low below s h behind ends told =
    (h.0, h.1, h.2, order_more ss t.to (below + (t.to - t.from)) s h.3 behind ends told)

pub end_more : (ss : List Extent) (low : ℕ) (s : Extent) → end_of low (ss ++ s ∷ []) ≡ s.to
end_more [] low s = refl
end_more (t ∷ ss) low s = end_more ss t.to s

pub size_more : (ss : List Extent) (below : ℕ) (s : Extent) → size_of below (ss ++ s ∷ []) ≡ size_of below ss + (s.to - s.from)
size_more [] below s = refl
size_more (t ∷ ss) below s = size_more ss (below + (t.to - t.from)) s

pub sum_more : (ss : List Extent) (s : Extent) (b : ℕ) → in_extents (ss ++ s ∷ []) b ≡ in_extents ss b + in_extent s b
sum_more [] s b = omega arith
sum_more (t ∷ ss) s b = let h = sum_more ss s b in omega (arith, h)

pub adds : (ss : List Extent) (s : Extent) → IsUpTo ss s.from s.below → s.from ≤ s.to → Adds s ss (ss ++ s ∷ [])
adds ss s u ends =
    let last = end_more ss 0 s in
    let size = size_more ss 0 s in
    let before = u.size in
    record {
      up_to = record {
        order = order_more ss 0 0 s u.order u.behind ends (sym before);
        behind = omega (arith, last);
        size = omega (arith, size, before);
      };
      sum = sum_more ss s;
    }

-- the steps of the loop over the marks
abbrev pub IsCounted : List Bool → List Extent → ℕ → ℕ → Type 0
IsCounted marks ss from byte = (b : ℕ) → in_extents ss b + (min b byte - min b from) ≡ marked_below marks (min b byte)

pub counted_more : (marks : List Bool) (ss : List Extent) (from byte : ℕ) → from ≤ byte → get_or marks byte false ≡ true → IsCounted marks ss from byte → IsCounted marks ss from (byte + 1)
counted_more marks ss from byte le here h b = by_place (least_or_past byte b)
  where
    by_place : (byte < b) ⊎ (b ≤ byte) → in_extents ss b + (min b (byte + 1) - min b from) ≡ marked_below marks (min b (byte + 1))
    by_place (inl past) =
        let next : min b (byte + 1) ≡ suc byte = omega (arith, past) in
        let before : min b byte ≡ byte = omega (arith, past) in
        let e = subst (λ n. in_extents ss b + (n - min b from) ≡ marked_below marks n) before (h b) in
        let more : marked_below marks (suc byte) ≡ marked_below marks byte + 1 = ap (λ m. marked_below marks byte + cond m 1 0) here in
        subst (λ n. in_extents ss b + (n - min b from) ≡ marked_below marks n) (sym next) (omega (arith, e, more, le, past))
    by_place (inr under) =
        let same : min b byte ≡ min b (byte + 1) = omega (arith, under) in
        subst (λ n. in_extents ss b + (n - min b from) ≡ marked_below marks n) same (h b)

pub counted_none : (marks : List Bool) (old new : List Extent) (s : Extent) (byte : ℕ) → s.to ≡ byte → s.from ≤ byte → get_or marks byte false ≡ false → Adds s old new → IsCounted marks old s.from byte → IsCounted marks new (byte + 1) (byte + 1)
counted_none marks old new s byte to le here a h b = by_place (least_or_past byte b)
  where
    sum : in_extents new b ≡ in_extents old b + (min b s.to - min b s.from)
    sum = a.sum b

    by_place : (byte < b) ⊎ (b ≤ byte) → in_extents new b + (min b (byte + 1) - min b (byte + 1)) ≡ marked_below marks (min b (byte + 1))
    by_place (inl past) =
        let next : min b (byte + 1) ≡ suc byte = omega (arith, past) in
        let before : min b byte ≡ byte = omega (arith, past) in
        let e = subst (λ n. in_extents old b + (n - min b s.from) ≡ marked_below marks n) before (h b) in
        let none : marked_below marks (suc byte) ≡ marked_below marks byte + 0 = ap (λ m. marked_below marks byte + cond m 1 0) here in
        subst (λ n. in_extents new b + (n - n) ≡ marked_below marks n) (sym next) (omega (arith, e, none, sum, to, before))
    by_place (inr under) =
        let same : min b byte ≡ min b (byte + 1) = omega (arith, under) in
        let e = h b in
        subst (λ n. in_extents new b + (n - n) ≡ marked_below marks n) same (omega (arith, e, sum, to))

pub counted_all : (marks : List Bool) (old new : List Extent) (s : Extent) → s.to ≡ length marks → s.from ≤ length marks → Adds s old new → IsCounted marks old s.from (length marks) → AreExtents marks new
counted_all marks old new s to le a h = record { order = a.up_to.order; count = λ b. by_place b (least_or_past (length marks) b) }
  where
    by_place : (b : ℕ) → (length marks < b) ⊎ (b ≤ length marks) → in_extents new b ≡ marked_below marks b
    by_place b (inl past) =
        let before : min b (length marks) ≡ length marks = omega (arith, past) in
        let e = subst (λ n. in_extents old b + (n - min b s.from) ≡ marked_below marks n) before (h b) in
        let sum = a.sum b in
        let rest = marked_past marks b (omega (arith, past)) in
        omega (arith, e, sum, to, rest, before)
    by_place b (inr under) =
        let before : min b (length marks) ≡ b = omega (arith, under) in
        let e = subst (λ n. in_extents old b + (n - min b s.from) ≡ marked_below marks n) before (h b) in
        let sum = a.sum b in
        omega (arith, e, sum, to, before)

-- the extents of the marks are those of the reached bytes
pub tell_reached : (m : Module) (marks : List Bool) (ss : List Extent) → marks ≡ marked_all (accesses m) (replicate (memory_bytes m) false) → AreExtents marks ss → TellReached m ss
tell_reached m marks ss same extents = record {
  order = extents.order;
  count = λ b. extents.count b ∙ ap (λ ms. marked_below ms b) same ∙ below_tells m b;
}
