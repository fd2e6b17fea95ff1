-- A test of whether two values are the same, by their stored form.
use Rattle.std.specs.Prelude.{◌≡◌, ◌↔◌, ◌==◌, Bool, true, false, ◌&&◌, IsTrue, refl}
use Rattle.std.specs.Bool.{Decides}
use Rattle.std.specs.Cmp.{IsEquivalence, IsPartialEquivalence, partial_equiv_from_equiv}
use Rattle.std.specs.Coded.{Coded}
use Rattle.std.proofs.Common.{ap, ap₂, sym, subst}
use Rattle.std.proofs.lemmas.Bool.Decides.{Decides-eqb, same_from_decides}
use base.Stored.{Gv, gnil, gnum, gcons}

abbrev same_tree : Gv → Gv → Bool
same_tree gnil gnil = true
same_tree (gnum m) (gnum n) = m == n
same_tree (gcons a b) (gcons c d) = same_tree a c && same_tree b d
same_tree _ _ = false

same_tree-refl : (a : Gv) → same_tree a a ≡ true
same_tree-refl gnil = refl
same_tree-refl (gnum n) = (Decides-eqb n n).1 refl
same_tree-refl (gcons a b) = ap₂ (λ x y. x && y) (same_tree-refl a) (same_tree-refl b)

both : (x y : Bool) → (x && y) ≡ true → (x ≡ true) × (y ≡ true)
both true true e = (refl, refl)
both true false e = absurd cc
both false y e = absurd cc

same_tree-is : (a b : Gv) → same_tree a b ≡ true → a ≡ b
same_tree-is gnil gnil e = refl
same_tree-is (gnum m) (gnum n) e = ap gnum ((Decides-eqb m n).0 e)
same_tree-is (gcons a b) (gcons c d) e =
    let p = both (same_tree a c) (same_tree b d) e in
    ap₂ gcons (same_tree-is a c p.0) (same_tree-is b d p.1)
same_tree-is gnil (gnum n) e = absurd cc
same_tree-is gnil (gcons c d) e = absurd cc
same_tree-is (gnum m) gnil e = absurd cc
same_tree-is (gnum m) (gcons c d) e = absurd cc
same_tree-is (gcons a b) gnil e = absurd cc
same_tree-is (gcons a b) (gnum n) e = absurd cc

-- whether the two values are the same
unfoldable pub same_by : {A : Type 0} → Coded A → A → A → Bool
same_by c x y = same_tree (c.code x) (c.code y)

pub same_decides : {A : Type 0} (c : Coded A) (x y : A) → Decides (same_by c x y) (x ≡ y)
unfolding same_by
same_decides c x y =
    (λ e. c.inj x y (same_tree-is (c.code x) (c.code y) e), λ e. subst (λ z. same_tree (c.code x) (c.code z) ≡ true) e (same_tree-refl (c.code x)))

-- every test that is true exactly where the two values are the same equals this one
pub same_is : {A : Type 0} (c : Coded A) (x y : A) (r : Bool) → IsTrue r ↔ (x ≡ y) → r ≡ same_by c x y
same_is c x y r h = same_from_decides r (same_by c x y) h (same_decides c x y)

pub same_equivalence : {A : Type 0} (c : Coded A) → IsEquivalence (same_by c)
same_equivalence c = record {
  refl = λ x. (same_decides c x x).1 refl;
  symm = λ x y. same_from_decides (same_by c x y) (same_by c y x) (same_decides c x y) (λ e. sym ((same_decides c y x).0 e), λ e. (same_decides c y x).1 (sym e));
  congr = λ x y z e. ap (λ w. same_by c w z) ((same_decides c x y).0 e);
}

pub same_partial : {A : Type 0} (c : Coded A) → IsPartialEquivalence (same_by c)
same_partial c = partial_equiv_from_equiv (same_equivalence c)
