-- Lists that have no number twice: one more at the end, turned, and reversed.
use Rattle.std.proofs.Common.{◌≡◌, ◌≢◌, ℕ, Bool, true, if◌then◌else◌, List, [], ◌∷◌, ◌++◌, take, drop, reverse, sym, ap, subst, ◌∙◌}
use Rattle.std.specs.List.{AllByRecursion}
use Rattle.std.proofs.lemmas.List.{reverse-append, take-append-drop}
use Rattle.cost.specs.declared.table.Mark.{Mark}
use Rattle.cost.specs.declared.table.Mark.TheVariants.{Open, Unseen}
use Rattle.verified.specs.Cycles.{AreDistinct}
use Rattle.cost.specs.Marks.{mark_at}
use Rattle.cost.specs.inside.Stops.{IsUnseenBefore}

abbrev NotIn : ℕ → List ℕ → Type 0
NotIn x xs = AllByRecursion (λ y. y ≢ x) xs

halves : (P : ℕ → Type 0) (xs ys : List ℕ) → AllByRecursion P (xs ++ ys) → AllByRecursion P xs × AllByRecursion P ys
halves P [] ys h = (tt, h)
halves P (x ∷ xs) ys h = let p = halves P xs ys h.1 in ((h.0, p.0), p.1)

both : (P : ℕ → Type 0) (xs ys : List ℕ) → AllByRecursion P xs → AllByRecursion P ys → AllByRecursion P (xs ++ ys)
both P [] ys h i = i
both P (x ∷ xs) ys h i = (h.0, both P xs ys h.1 i)

imply : (P Q : ℕ → Type 0) → ((x : ℕ) → P x → Q x) → (xs : List ℕ) → AllByRecursion P xs → AllByRecursion Q xs
imply P Q f [] h = tt
imply P Q f (x ∷ xs) h = (f x h.0, imply P Q f xs h.1)

-- none of the first is among the second
abbrev Apart : List ℕ → List ℕ → Type 0
Apart xs ys = AllByRecursion (λ x. NotIn x ys) xs

apart_turned : (xs : List ℕ) (y : ℕ) → NotIn y xs → AllByRecursion (λ x. NotIn x (y ∷ [])) xs
apart_turned [] y h = tt
apart_turned (x ∷ xs) y h = ((λ e. h.0 (sym e), tt), apart_turned xs y h.1)

apart_none : (xs : List ℕ) → Apart xs []
apart_none [] = tt
apart_none (x ∷ xs) = (tt, apart_none xs)

-- y is not among the first where they are apart from y and more
first_apart : (xs : List ℕ) (y : ℕ) (ys : List ℕ) → Apart xs (y ∷ ys) → NotIn y xs × Apart xs ys
first_apart [] y ys h = (tt, tt)
first_apart (x ∷ xs) y ys h =
    let p = first_apart xs y ys h.1 in ((λ e. h.0.0 (sym e), p.0), (h.0.1, p.1))

apart_back : (xs ys : List ℕ) → Apart xs ys → Apart ys xs
apart_back xs [] h = tt
apart_back xs (y ∷ ys) h = let p = first_apart xs y ys h in (p.0, apart_back xs ys p.1)

parts : (xs ys : List ℕ) → AreDistinct (xs ++ ys) → AreDistinct xs × AreDistinct ys × Apart xs ys
parts [] ys h = (tt, h, tt)
parts (x ∷ xs) ys h =
    let n = halves (λ y. y ≢ x) xs ys h.0 in
    let p = parts xs ys h.1 in
    ((n.0, p.0), p.1, (n.1, p.2))

joined : (xs ys : List ℕ) → AreDistinct xs → AreDistinct ys → Apart xs ys → AreDistinct (xs ++ ys)
joined [] ys h i a = i
joined (x ∷ xs) ys h i a = (both (λ y. y ≢ x) xs ys h.0 a.0, joined xs ys h.1 i a.1)

pub distinct_turned : (xs ys : List ℕ) (k : ℕ) → ys ≡ drop k xs ++ take k xs → AreDistinct xs → AreDistinct ys
distinct_turned xs ys k e h =
    let p = parts (take k xs) (drop k xs) (subst AreDistinct (sym (take-append-drop k xs)) h) in
    subst AreDistinct (sym e) (joined (drop k xs) (take k xs) p.1 p.0 (apart_back (take k xs) (drop k xs) p.2))

-- one more, which is not among the others
distinct_more : (xs : List ℕ) (y : ℕ) → AreDistinct xs → NotIn y xs → AreDistinct (xs ++ y ∷ [])
distinct_more xs y h n = joined xs (y ∷ []) h (tt, tt) (apart_turned xs y n)

reverse_none : (P : ℕ → Type 0) (xs : List ℕ) → AllByRecursion P xs → AllByRecursion P (reverse xs)
reverse_none P [] h = tt
reverse_none P (x ∷ xs) h =
    subst (AllByRecursion P) (sym (reverse-append (x ∷ []) xs)) (both P (reverse xs) (x ∷ []) (reverse_none P xs h.1) (h.0, tt))

pub distinct_reverse : (xs : List ℕ) → AreDistinct xs → AreDistinct (reverse xs)
distinct_reverse [] h = tt
distinct_reverse (x ∷ xs) h =
    subst AreDistinct (sym (reverse-append (x ∷ []) xs)) (distinct_more (reverse xs) x (distinct_reverse xs h.1) (reverse_none (λ y. y ≢ x) xs h.0))

-- ---- a trail with the caller at its end

-- a list after a push
pub pushed : (ys xs : List ℕ) (x : ℕ) (b : Bool) → ys ≡ (if b then xs ++ x ∷ [] else xs) → b ≡ true → ys ≡ xs ++ x ∷ []
pushed ys xs x b e t = e ∙ ap (λ (c : Bool). if c then xs ++ x ∷ [] else xs) t

module _ (old new : List Mark) (before : IsUnseenBefore old new) (caller : ℕ) (was : mark_at old caller ≡ Unseen) (now : mark_at new caller ≡ Open) where
  differs : (g : ℕ) → mark_at new g ≡ Unseen → g ≢ caller
  differs g u e = let h : Open ≡ Unseen = sym now ∙ sym (ap (λ (k : ℕ). mark_at new k) e) ∙ u in cc

  pub distinct_on : (xs : List ℕ) → AreDistinct xs → AllByRecursion (λ g. mark_at new g ≡ Unseen) xs → AreDistinct (xs ++ caller ∷ [])
  distinct_on xs h u =
      distinct_more xs caller h (imply (λ g. mark_at new g ≡ Unseen) (λ g. g ≢ caller) differs xs u)

  pub unseen_on : (xs : List ℕ) → AllByRecursion (λ g. mark_at new g ≡ Unseen) xs → AllByRecursion (λ g. mark_at old g ≡ Unseen) (xs ++ caller ∷ [])
  unseen_on xs u =
      both (λ g. mark_at old g ≡ Unseen) xs (caller ∷ []) (imply (λ g. mark_at new g ≡ Unseen) (λ g. mark_at old g ≡ Unseen) before xs u) (was, tt)
