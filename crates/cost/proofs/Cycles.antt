-- Cycles of calls.
use Rattle.std.proofs.Common.{◌≡◌, ℕ, ◌+◌, ◌<◌, ◌≤◌, List, [], ◌∷◌, ◌++◌, length, get_or, take, drop, refl, sym, ap, subst, ◌∙◌, arith, zero-add, ◌-◌, inl, inr}
use Rattle.std.proofs.lemmas.List.{take-append-drop, length-append}
use Rattle.std.specs.List.{RotatedLeft}
use Rattle.std.proofs.lemmas.Bool.Decides.{leb_tells}
use Rattle.std.proofs.lemmas.Grind.{common_steps}
use Rattle.verified.specs.Calls.{Calls}
use Rattle.verified.specs.Cycles.{Leads, IsCycle, Acyclic}

leads_split : (cs : ℕ → List ℕ) (f : ℕ) (xs ys : List ℕ) (g : ℕ) → Leads cs f (xs ++ ys) g → (m : ℕ) × Leads cs f xs m × Leads cs m ys g
leads_split cs f [] ys g h = (f, refl, h)
leads_split cs f (x ∷ xs) ys g h =
    let r = leads_split cs h.0 xs ys g h.3 in (r.0, (h.0, h.1, h.2, r.1), r.2)

leads_join : (cs : ℕ → List ℕ) (f : ℕ) (xs ys : List ℕ) (m g : ℕ) → Leads cs f xs m → Leads cs m ys g → Leads cs f (xs ++ ys) g
leads_join cs f [] ys m g h i = subst (λ x. Leads cs x ys g) (sym h) i
leads_join cs f (x ∷ xs) ys m g h i = (h.0, h.1, h.2, leads_join cs h.0 xs ys m g h.3 i)

cycle : (cs : ℕ → List ℕ) (m : ℕ) (zs : List ℕ) → Leads cs m zs m → 0 < length zs → IsCycle cs zs
cycle cs m [] h n = absurd (omega arith)
cycle cs m (z ∷ zs) h n = subst (λ a. Leads cs a (z ∷ zs) a) h.1 h

leads_of_cycle : (cs : ℕ → List ℕ) (xs : List ℕ) → IsCycle cs xs → (f : ℕ) × Leads cs f xs f × (0 < length xs)
leads_of_cycle cs [] h = absurd h
leads_of_cycle cs (x ∷ xs) h = (x, h, omega arith)

-- a cycle may be turned
pub turned_cycle : (cs : ℕ → List ℕ) (xs ys : List ℕ) (k : ℕ) → ys ≡ drop k xs ++ take k xs → IsCycle cs xs → IsCycle cs ys
turned_cycle cs xs ys k e h =
    let c = leads_of_cycle cs xs h in
    let s = leads_split cs c.0 (take k xs) (drop k xs) c.0 (subst (λ zs. Leads cs c.0 zs c.0) (sym (take-append-drop k xs)) c.1) in
    let t = leads_join cs s.0 (drop k xs) (take k xs) c.0 s.0 s.2 s.1 in
    let n : 0 < length (drop k xs ++ take k xs) = omega (arith, c.2, length-append (drop k xs) (take k xs), length-append (take k xs) (drop k xs), ap length (take-append-drop k xs)) in
    subst (IsCycle cs) (sym e) (cycle cs s.0 (drop k xs ++ take k xs) t n)

-- where ranks fall at each call, there is no cycle
falls_along : (cs : ℕ → List ℕ) (rank : ℕ → ℕ) → ((f g : ℕ) → Calls cs f g → rank g < rank f) → (f : ℕ) (xs : List ℕ) (g : ℕ) → Leads cs f xs g → rank g + length xs ≤ rank f
falls_along cs rank falls f [] g h = omega (arith, ap rank h)
falls_along cs rank falls f (x ∷ xs) g h =
    let i = falls_along cs rank falls h.0 xs g h.3 in
    let j = falls f h.0 h.2 in
    omega (arith, i, j)

pub no_cycle : (cs : ℕ → List ℕ) (rank : ℕ → ℕ) → ((f g : ℕ) → Calls cs f g → rank g < rank f) → Acyclic cs
no_cycle cs rank falls [] h = h
no_cycle cs rank falls (x ∷ xs) h = let i = falls_along cs rank falls x (x ∷ xs) x h in omega (arith, i)

-- a list that is turned to begin with its least number
pub turned_least : (xs ys : List ℕ) (m : ℕ) → length ys ≡ length xs → RotatedLeft xs ys (length xs) m → (0 < length xs → m < length xs) → ((k : ℕ) → k < length xs → get_or xs m 0 ≤ get_or xs k 0) → (k : ℕ) → k < length ys → get_or ys 0 0 ≤ get_or ys k 0
turned_least xs ys m e r w least k h =
    let lt : m < length xs = w (omega arith) in
    let lm : 0 + m < length xs = omega arith in
    let a : get_or ys 0 0 ≡ get_or xs m 0 = r.0 0 0 lm ∙ ap (λ i. get_or xs i 0) (zero-add m) in
    elim (leb_tells (k + m + 1) (length xs)) [ inl b ↦ front a b.1 | inr b ↦ back a lt b.1 ]
  where
    front : get_or ys 0 0 ≡ get_or xs m 0 → k + m + 1 ≤ length xs → get_or ys 0 0 ≤ get_or ys k 0
    front a b =
        let lk : k + m < length xs = omega arith in
        let f = r.0 k 0 lk in
        let g = least (k + m) lk in
        omega (arith, a, f, g)

    back : get_or ys 0 0 ≡ get_or xs m 0 → m < length xs → length xs < k + m + 1 → get_or ys 0 0 ≤ get_or ys k 0
    back a lt b =
        let ge : length xs ≤ k + m = omega arith in
        let lk : k < length xs = omega arith in
        let f = r.1 k 0 ge lk in
        let g = least (k + m - length xs) (omega arith) in
        omega (arith, a, f, g)

pub written_back : (xs ys : List ℕ) (n : ℕ) → n ≡ length xs → length ys ≡ length xs → take n (ys ++ drop (length ys) xs) ≡ ys
written_back xs ys n e f = grind (arith, common_steps)
