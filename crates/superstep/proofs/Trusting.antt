-- Which epochs are trusted.
use Rattle.std.proofs.Common.{◌≡◌, ◌<◌, ◌≤◌, ℕ, zero, suc, Bool, true, refl, subst, arith}
use Rattle.superstep.specs.Tasks.{trusts}

-- what `Origin` says of them
abbrev pub Lasts : (ℕ → Bool) → Type 0
Lasts honest = (epoch other : ℕ) → 0 < epoch → honest epoch ≡ true → honest other ≡ true

-- an earlier one is, if a later one is
pub earlier : (honest : ℕ → Bool) → Lasts honest → (a b : ℕ) → a ≤ b → honest b ≡ true → honest a ≡ true
earlier honest lasts a zero le sure = let same : zero ≡ a = omega (arith, le) in subst (λ n. honest n ≡ true) same sure
earlier honest lasts a (suc b) le sure = lasts (suc b) a (omega arith) sure

pub trusts_lasts : (honest : Bool) → Lasts (trusts honest)
trusts_lasts honest zero other late sure = absurd (omega (arith, late))
trusts_lasts honest (suc epoch) zero late sure = refl
trusts_lasts honest (suc epoch) (suc other) late sure = sure

-- an honest Keep is always trusted
pub trusts_sure : (honest : Bool) (epoch : ℕ) → honest ≡ true → trusts honest epoch ≡ true
trusts_sure honest zero sure = refl
trusts_sure honest (suc epoch) sure = sure
