-- Where no function calls itself, each table that is defined along calls exists: the entry of a function by the
-- entries of those that it calls.
use Rattle.std.proofs.Common.{◌≡◌, ℕ, zero, suc, ◌+◌, ◌-◌, ◌<◌, ◌≤◌, ◌⊎◌, inl, inr, max, Bool, true, false, List, [], ◌∷◌, ◌++◌, length, get_or, slice_get, Option, Some, None, option_map, if◌then◌else◌, refl, sym, ap, ◌∙◌, subst, arith}
use Rattle.std.specs.Prelude.{eqb}
use Rattle.std.specs.List.{AllByRecursion, IsDistinct, list_any}
use Rattle.std.proofs.lemmas.Bool.{ne_eqb, eqb-true, or_cases, cases_lt, le-ltb}
use Rattle.std.proofs.lemmas.Option.{slice_get_past}
use Rattle.std.proofs.lemmas.Map.Steps.{length-le_from_distinct_below}
use Rattle.wasm_ast.specs.declared.module.Function.{Function}
use Rattle.wasm_ast.specs.declared.module.Module.{Module}
use Rattle.wasm_ast.specs.Code.{Code}
use Rattle.wasm_ast.specs.Code as code
use Rattle.wasm_ast.specs.Limits.{imported_functions}
use Rattle.verified.specs.Calls.{Calls, callees, body_of, calls_in, calls_of}
use Rattle.verified.specs.Cycles.{Leads, Acyclic}
use Rattle.verified.specs.CallHeights.{most, height}
use Rattle.verified.specs.Sizes.{AreSizes, code_size, size_in}
use Rattle.verified.specs.Arities.{plain_arity, branch_arity, call_arity, block_arity, test_arity}
use Rattle.verified.specs.Heights.{after, peak, peak_in, AreHeights}
use Rattle.verified.specs.Facts.{AreDepths}

leads_join : (cs : ℕ → List ℕ) (f : ℕ) (xs ys : List ℕ) (m g : ℕ) → Leads cs f xs m → Leads cs m ys g → Leads cs f (xs ++ ys) g
leads_join cs f [] ys m g h i = subst (λ (x : ℕ). Leads cs x ys g) (sym h) i
leads_join cs f (x ∷ xs) ys m g h i = (h.0, h.1, h.2, leads_join cs h.0 xs ys m g h.3 i)

module _ (cs : ℕ → List ℕ) (acyclic : Acyclic cs) where
  -- a way that comes back is a cycle
  no_return : (x : ℕ) (xs : List ℕ) → Leads cs x (x ∷ xs) x → ⊥
  no_return x xs h = acyclic (x ∷ xs) h

  -- what comes after x on a way from it is not x
  differ : (x y : ℕ) (before xs : List ℕ) (g : ℕ) → Leads cs x (x ∷ before) y → Leads cs y xs g → AllByRecursion (λ z. eqb x z ≡ false) xs
  differ x y before [] g b h = tt
  differ x y before (z ∷ xs) g b h =
      let here : Leads cs y (z ∷ []) h.0 = (h.0, h.1, h.2, refl) in
      (ne_eqb x z (λ e. no_return x before (subst (λ (w : ℕ). Leads cs x (x ∷ before) w) (h.1 ∙ sym e) b)), differ x h.0 (before ++ z ∷ []) xs g (leads_join cs x (x ∷ before) (z ∷ []) y h.0 b here) h.3)

  distinct : (xs : List ℕ) (f g : ℕ) → Leads cs f xs g → IsDistinct eqb xs
  unfolding IsDistinct
  distinct [] f g h = tt
  distinct (x ∷ xs) f g h =
      let first : Leads cs x (x ∷ []) h.0 = (h.0, refl, subst (λ (w : ℕ). Calls cs w h.0) h.1 h.2, refl) in
      (differ x h.0 [] xs g first h.3, distinct xs h.0 g h.3)

module _ (m : Module) (acyclic : Acyclic (callees m)) where
  abbrev functions : ℕ
  functions = imported_functions m.imports + length m.functions

  -- what has a body is one of the functions
  no_body : (f : ℕ) → functions ≤ f → body_of m f ≡ None
  no_body f h =
      ap (λ (b : Bool). if b then None else option_map (λ (g : Function). g.body) (slice_get m.functions (f - imported_functions m.imports))) (le-ltb f (imported_functions m.imports) (omega arith))
      ∙ ap (λ (o : Option Function). option_map (λ (g : Function). g.body) o) (slice_get_past m.functions (f - imported_functions m.imports) (omega arith))

  caller_below : (f g : ℕ) → Calls (callees m) f g → f < functions
  caller_below f g c = caller (cases_lt f functions)
    where
      caller : (f < functions) ⊎ (functions ≤ f) → f < functions
      caller (inl h) = h
      caller (inr h) = let l = ap (λ (b : Option Code). length (calls_in b)) (no_body f h) in let k = c.1 in absurd (omega (arith, k, l))

  first_below : (x f g q : ℕ) → f ≡ x → Calls (callees m) f g → eqb q x ≡ true → q < functions
  first_below x f g q h c e = subst (λ (w : ℕ). w < functions) (h ∙ sym (eqb-true q x e)) (caller_below f g c)

  way_below : (xs : List ℕ) (f g : ℕ) → Leads (callees m) f xs g → (q : ℕ) → list_any (eqb q) xs ≡ true → q < functions
  way_below [] f g h q e = absurd cc
  way_below (x ∷ xs) f g h q e =
      elim (or_cases (eqb q x) (list_any (eqb q) xs) e) [ inl a ↦ first_below x f h.0 q h.1 h.2 a | inr a ↦ way_below xs h.0 g h.3 q a ]

  way_short : (xs : List ℕ) (f g : ℕ) → Leads (callees m) f xs g → length xs ≤ functions
  way_short xs f g h = length-le_from_distinct_below xs functions (distinct (callees m) acyclic xs f g h) (way_below xs f g h)

  -- equal for each function that f calls
  abbrev Agree : (ℕ → ℕ) → (ℕ → ℕ) → ℕ → Type 0
  Agree s t f = (k : ℕ) → k < length (callees m f) → s (get_or (callees m f) k 0) ≡ t (get_or (callees m f) k 0)

  module _ (rule : (ℕ → ℕ) → ℕ → ℕ) (along : (s t : ℕ → ℕ) (f : ℕ) → Agree s t f → rule s f ≡ rule t f) where
    abbrev deep : ℕ → ℕ → ℕ
    deep zero f = 0
    deep (suc n) f = rule (deep n) f

    -- so deep that no way is as long
    stable : (n f : ℕ) → ((xs : List ℕ) (g : ℕ) → length xs ≡ n → Leads (callees m) f xs g → ⊥) → deep n f ≡ deep (suc n) f
    stable zero f none = absurd (none [] f refl refl)
    stable (suc n) f none =
        along (deep n) (deep (suc n)) f (λ k l. stable n (get_or (callees m f) k 0) (λ xs g e h. none (f ∷ xs) g (omega (arith, e)) (get_or (callees m f) k 0, refl, (k, l, refl), h)))

    pub table : (s : ℕ → ℕ) × ((f : ℕ) → s f ≡ rule s f)
    table = (deep (suc functions), λ f. stable (suc functions) f (λ xs g e h. absurd (omega (arith, e, way_short xs f g h))))

-- ---- the tables

abbrev Same : (ℕ → ℕ) → (ℕ → ℕ) → List ℕ → Type 0
Same s t xs = AllByRecursion (λ f. s f ≡ t f) xs

same_at : (s t : ℕ → ℕ) (xs : List ℕ) → ((k : ℕ) → k < length xs → s (get_or xs k 0) ≡ t (get_or xs k 0)) → Same s t xs
same_at s t [] h = tt
same_at s t (x ∷ xs) h = (h 0 (omega arith), same_at s t xs (λ k g. h (suc k) (omega (arith, g))))

halves : (s t : ℕ → ℕ) (xs ys : List ℕ) → Same s t (xs ++ ys) → Same s t xs × Same s t ys
halves s t [] ys h = (tt, h)
halves s t (x ∷ xs) ys h = let p = halves s t xs ys h.1 in ((h.0, p.0), p.1)

most_same : (s t : ℕ → ℕ) (xs : List ℕ) → Same s t xs → most s xs ≡ most t xs
most_same s t [] h = refl
most_same s t (x ∷ xs) h = let a = h.0 in let b = most_same s t xs h.1 in omega (arith, a, b)

size_same : (m : Module) (s t : ℕ → ℕ) (is : Code) → Same s t (calls_of is) → code_size m s is ≡ code_size m t is
size_same m s t code.end h = refl
size_same m s t (code.plain p rest) h = let a = size_same m s t rest h in omega (arith, a)
size_same m s t (code.branch b rest) h = let a = size_same m s t rest h in omega (arith, a)
size_same m s t (code.call f rest) h = let a = size_same m s t rest h.1 in let b = h.0 in omega (arith, a, b)
size_same m s t (code.call_indirect x rest) h = let a = size_same m s t rest h in omega (arith, a)
size_same m s t (code.unreachable rest) h = let a = size_same m s t rest h in omega (arith, a)
size_same m s t (code.block x body rest) h =
    let p = halves s t (calls_of body) (calls_of rest) h in
    let a = size_same m s t body p.0 in
    let b = size_same m s t rest p.1 in
    omega (arith, a, b)
size_same m s t (code.loop x body rest) h =
    let p = halves s t (calls_of body) (calls_of rest) h in
    let a = size_same m s t body p.0 in
    let b = size_same m s t rest p.1 in
    omega (arith, a, b)
size_same m s t (code.choice x body other rest) h =
    let p = halves s t (calls_of body) (calls_of other ++ calls_of rest) h in
    let q = halves s t (calls_of other) (calls_of rest) p.1 in
    let a = size_same m s t body p.0 in
    let b = size_same m s t other q.0 in
    let d = size_same m s t rest q.1 in
    omega (arith, a, b, d)

two : (n a b c d : ℕ) → a ≡ b → c ≡ d → max (n + a) c ≡ max (n + b) d
two n a b c d e g = ap (λ (k : ℕ). max (n + k) c) e ∙ ap (λ (k : ℕ). max (n + b) k) g

three : (n o a b c d x y : ℕ) → a ≡ b → c ≡ d → x ≡ y → max n (max (o + max a c) x) ≡ max n (max (o + max b d) y)
three n o a b c d x y e g h =
    ap (λ (k : ℕ). max n (max (o + max k c) x)) e ∙ ap (λ (k : ℕ). max n (max (o + max b k) x)) g ∙ ap (λ (k : ℕ). max n (max (o + max b d) k)) h

peak_same : (m : Module) (s t : ℕ → ℕ) (is : Code) (h : ℕ) → Same s t (calls_of is) → peak m s is h ≡ peak m t is h
peak_same m s t code.end n h = refl
peak_same m s t (code.plain p rest) n h = ap (λ (k : ℕ). max n k) (peak_same m s t rest (after (plain_arity p) n) h)
peak_same m s t (code.branch b rest) n h = ap (λ (k : ℕ). max n k) (peak_same m s t rest (after (branch_arity b) n) h)
peak_same m s t (code.call f rest) n h =
    ap (λ (k : ℕ). max n (max (n - (call_arity m f).takes + k) (peak m s rest (after (call_arity m f) n)))) h.0
    ∙ ap (λ (k : ℕ). max n (max (n - (call_arity m f).takes + t f) k)) (peak_same m s t rest (after (call_arity m f) n) h.1)
peak_same m s t (code.call_indirect x rest) n h = ap (λ (k : ℕ). max n k) (peak_same m s t rest n h)
peak_same m s t (code.unreachable rest) n h = ap (λ (k : ℕ). max n k) (peak_same m s t rest n h)
peak_same m s t (code.block x body rest) n h =
    let p = halves s t (calls_of body) (calls_of rest) h in
    let a = peak_same m s t body 0 p.0 in
    let b = peak_same m s t rest (after (block_arity x) n) p.1 in
    two n (peak m s body 0) (peak m t body 0) (peak m s rest (after (block_arity x) n)) (peak m t rest (after (block_arity x) n)) a b
peak_same m s t (code.loop x body rest) n h =
    let p = halves s t (calls_of body) (calls_of rest) h in
    let a = peak_same m s t body 0 p.0 in
    let b = peak_same m s t rest (after (block_arity x) n) p.1 in
    two n (peak m s body 0) (peak m t body 0) (peak m s rest (after (block_arity x) n)) (peak m t rest (after (block_arity x) n)) a b
peak_same m s t (code.choice x body other rest) n h =
    let p = halves s t (calls_of body) (calls_of other ++ calls_of rest) h in
    let q = halves s t (calls_of other) (calls_of rest) p.1 in
    let a = peak_same m s t body 0 p.0 in
    let b = peak_same m s t other 0 q.0 in
    let d = peak_same m s t rest (after (block_arity x) (after test_arity n)) q.1 in
    three n (after test_arity n) (peak m s body 0) (peak m t body 0) (peak m s other 0) (peak m t other 0) (peak m s rest (after (block_arity x) (after test_arity n))) (peak m t rest (after (block_arity x) (after test_arity n))) a b d

depth_along : (s t : ℕ → ℕ) (b : Option Code) → Same s t (calls_in b) → height s b ≡ height t b
depth_along s t None h = refl
depth_along s t (Some is) h = ap (λ n. 1 + n) (most_same s t (calls_of is) h)

size_along : (m : Module) (s t : ℕ → ℕ) (b : Option Code) → Same s t (calls_in b) → size_in m s b ≡ size_in m t b
size_along m s t None h = refl
size_along m s t (Some is) h = size_same m s t is h

peak_along : (m : Module) (s t : ℕ → ℕ) (b : Option Code) → Same s t (calls_in b) → peak_in m s b ≡ peak_in m t b
peak_along m s t None h = refl
peak_along m s t (Some is) h = peak_same m s t is 0 h

module _ (m : Module) (acyclic : Acyclic (callees m)) where
  pub depths_there : (depths : ℕ → ℕ) × AreDepths m depths
  depths_there = table m acyclic (λ s f. height s (body_of m f)) (λ s t f a. depth_along s t (body_of m f) (same_at s t (calls_in (body_of m f)) a))

  pub sizes_there : (sizes : ℕ → ℕ) × AreSizes m sizes
  sizes_there = table m acyclic (λ s f. size_in m s (body_of m f)) (λ s t f a. size_along m s t (body_of m f) (same_at s t (calls_in (body_of m f)) a))

  pub heights_there : (heights : ℕ → ℕ) × AreHeights m heights
  heights_there = table m acyclic (λ s f. peak_in m s (body_of m f)) (λ s t f a. peak_along m s t (body_of m f) (same_at s t (calls_in (body_of m f)) a))
