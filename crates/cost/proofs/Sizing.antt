-- Where ranks fall at each call there is one sizing.
use Rattle.std.proofs.Common.{◌≡◌, ℕ, zero, suc, ◌+◌, ◌<◌, List, [], ◌∷◌, ◌++◌, length, get_or, Option, Some, None, refl, sym, ap, ◌∙◌, arith}
use Rattle.std.specs.List.{AllByRecursion}
use Rattle.wasm_ast.specs.declared.module.Module.{Module}
use Rattle.wasm_ast.specs.declared.body.Instr.TheVariants as instr
use Rattle.wasm_ast.specs.Code.{Code, end, plain, branch, call, call_indirect, unreachable, block, loop, choice}
use Rattle.verified.specs.Weights.{units_of}
use Rattle.verified.specs.Calls.{Calls, callees, body_of, calls_in, calls_of}
use Rattle.verified.specs.Sizes.{code_size, size_in, AreSizes, HasOneSizing}

-- equal at each of these functions
abbrev Agree : (ℕ → ℕ) → (ℕ → ℕ) → List ℕ → Type 0
Agree s t xs = AllByRecursion (λ f. s f ≡ t f) xs

agree_at : (s t : ℕ → ℕ) (xs : List ℕ) → ((k : ℕ) → k < length xs → s (get_or xs k 0) ≡ t (get_or xs k 0)) → Agree s t xs
agree_at s t [] h = tt
agree_at s t (x ∷ xs) h = (h 0 (omega arith), agree_at s t xs (λ k g. h (suc k) (omega arith)))

parts : (s t : ℕ → ℕ) (xs ys : List ℕ) → Agree s t (xs ++ ys) → Agree s t xs × Agree s t ys
parts s t [] ys h = (tt, h)
parts s t (x ∷ xs) ys h = let p = parts s t xs ys h.1 in ((h.0, p.0), p.1)

-- code has one size where its calls do
size_agree : (m : Module) (s t : ℕ → ℕ) (c : Code) → Agree s t (calls_of c) → code_size m s c ≡ code_size m t c
size_agree m s t end h = refl
size_agree m s t (plain p rest) h = ap (λ n. units_of m (instr.Plain p) + n) (size_agree m s t rest h)
size_agree m s t (branch b rest) h = ap (λ n. units_of m (instr.Branch b) + n) (size_agree m s t rest h)
size_agree m s t (call f rest) h =
    let a = h.0 in
    let b = size_agree m s t rest h.1 in
    omega (arith, a, b)
size_agree m s t (call_indirect x rest) h = ap (λ n. units_of m (instr.CallIndirect x) + n) (size_agree m s t rest h)
size_agree m s t (unreachable rest) h = ap (λ n. units_of m instr.Unreachable + n) (size_agree m s t rest h)
size_agree m s t (block x body rest) h =
    let p = parts s t (calls_of body) (calls_of rest) h in
    let a = size_agree m s t body p.0 in
    let b = size_agree m s t rest p.1 in
    omega (arith, a, b)
size_agree m s t (loop x body rest) h =
    let p = parts s t (calls_of body) (calls_of rest) h in
    let a = size_agree m s t body p.0 in
    let b = size_agree m s t rest p.1 in
    omega (arith, a, b)
size_agree m s t (choice x body other rest) h =
    let p = parts s t (calls_of body) (calls_of other ++ calls_of rest) h in
    let q = parts s t (calls_of other) (calls_of rest) p.1 in
    let a = size_agree m s t body p.0 in
    let b = size_agree m s t other q.0 in
    let d = size_agree m s t rest q.1 in
    omega (arith, a, b, d)

size_in_agree : (m : Module) (s t : ℕ → ℕ) (b : Option Code) → ((k : ℕ) → k < length (calls_in b) → s (get_or (calls_in b) k 0) ≡ t (get_or (calls_in b) k 0)) → size_in m s b ≡ size_in m t b
size_in_agree m s t None h = refl
size_in_agree m s t (Some c) h = size_agree m s t c (agree_at s t (calls_of c) h)

-- the size with calls inlined n deep
abbrev inlined_size : Module → ℕ → ℕ → ℕ
inlined_size m zero f = 0
inlined_size m (suc n) f = size_in m (inlined_size m n) (body_of m f)

module _ (m : Module) (rank : ℕ → ℕ) (falls : (f g : ℕ) → Calls (callees m) f g → rank g < rank f) where
  callee_below : (f k : ℕ) → k < length (callees m f) → rank (get_or (callees m f) k 0) < rank f
  callee_below f k h = falls f (get_or (callees m f) k 0) (k, h, refl)

  -- deeper than the rank, the depth does not matter
  deep : (n d f : ℕ) → rank f < n → rank f < d → inlined_size m n f ≡ inlined_size m d f
  deep zero d f h i = absurd (omega arith)
  deep (suc n) zero f h i = absurd (omega arith)
  deep (suc n) (suc d) f h i =
      size_in_agree m (inlined_size m n) (inlined_size m d) (body_of m f) (λ k l. let b = callee_below f k l in deep n d (get_or (callees m f) k 0) (omega (arith, b, h)) (omega (arith, b, i)))

  whole : ℕ → ℕ
  whole f = inlined_size m (suc (rank f)) f

  are : AreSizes m (λ f. inlined_size m (suc (rank f)) f)
  are f =
      size_in_agree m (inlined_size m (rank f)) (λ g. inlined_size m (suc (rank g)) g) (body_of m f) (λ k l. let b = callee_below f k l in deep (rank f) (suc (rank (get_or (callees m f) k 0))) (get_or (callees m f) k 0) b (omega arith))

  only : (s t : ℕ → ℕ) → AreSizes m s → AreSizes m t → (n f : ℕ) → rank f < n → t f ≡ s f
  only s t a b zero f h = absurd (omega arith)
  only s t a b (suc n) f h =
      b f ∙ size_in_agree m t s (body_of m f) (λ k l. let c = callee_below f k l in only s t a b n (get_or (callees m f) k 0) (omega (arith, c, h))) ∙ sym (a f)

  pub one_sizing : HasOneSizing m
  one_sizing =
      ((λ f. inlined_size m (suc (rank f)) f), are, λ t b f. only (λ g. inlined_size m (suc (rank g)) g) t are b (suc (rank f)) f (omega arith))
