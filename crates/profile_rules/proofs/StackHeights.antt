-- The height along code is that of its definition, up to the greatest number. It is exact where all heights are
-- small.
use Rattle.std.proofs.Common.{◌≡◌, ◌⊎◌, inl, inr, ℕ, ◌+◌, ◌-◌, ◌<◌, ◌≤◌, min, max, List, [], ◌∷◌, ◌++◌, true, false, leb, refl, subst, arith}
use Rattle.std.proofs.lemmas.Bool.Decides.{leb_tells}
use Rattle.std.specs.List.{AllByRecursion}
use Rattle.wasm_ast.specs.declared.module.Module.{Module}
use Rattle.wasm_ast.specs.Code.{Code}
use Rattle.wasm_ast.specs.Code as code
use Rattle.verified.specs.Calls.{calls_of}
use Rattle.verified.specs.Sizes.{code_size}
use Rattle.profile_rules.specs.declared.stack_height.StackHeight.{StackHeight}
use Rattle.verified.specs.Arities.{arity_table, plain_arity, branch_arity, call_arity, block_arity, test_arity}
use Rattle.verified.specs.Heights.{after, peak}
use Rattle.verified.specs.Cells.{no_heights}
use Rattle.profile_rules.specs.inside.StackHeights.{greatest, ground_level, height_at, reaching, stepping, with_call, with_code, most_along}
use Rattle.verified.proofs.StackHeights.{parts, weaker, bounded}

-- ---- sums of heights, in counts that stop at the greatest number

one : (here most next total : ℕ) → here ≤ most → most ≤ greatest → total ≡ max most (min next greatest) → total ≡ max most (min (max here next) greatest)
one here most next total low small e = omega (arith, low, small, e)

called : (here most left told callee next total : ℕ) → here ≤ most → most ≤ greatest → told ≡ callee → total ≡ max (max (min (left + told) greatest) most) (min next greatest) → total ≡ max most (min (max here (max (left + callee) next)) greatest)
called here most left told callee next total low small d e = omega (arith, low, small, d, e)

stops : (here inside body : ℕ) → inside ≡ max 0 (min body greatest) → min (here + inside) greatest ≡ min (here + body) greatest
stops here inside body e = omega (arith, e)

held : (here most inside next total : ℕ) → most ≤ greatest → total ≡ max (max (min (here + inside) greatest) most) (min next greatest) → total ≡ max most (min (max (here + inside) next) greatest)
held here most inside next total small e = omega (arith, small, e)

chosen : (here most left body other next total : ℕ) → here ≤ most → most ≤ greatest → left ≤ here → total ≡ max (max (min (left + other) greatest) (max (min (left + body) greatest) (max most left))) (min next greatest) → total ≡ max most (min (max here (max (left + max body other) next)) greatest)
chosen here most left body other next total low small less e =
    let above : left + max body other ≡ max (left + body) (left + other) = omega arith in
    let beyond : max most left ≡ most = omega (arith, low, less) in
    omega (arith, low, small, above, beyond, e)

module _ (m : Module) (heights : ℕ → ℕ) where
  at_least : (c : Code) (here : ℕ) → here ≤ peak m heights c here
  at_least code.end here = omega arith
  at_least (code.plain p rest) here = omega arith
  at_least (code.branch b rest) here = omega arith
  at_least (code.call f rest) here = omega arith
  at_least (code.call_indirect t rest) here = omega arith
  at_least (code.unreachable rest) here = omega arith
  at_least (code.block t body rest) here = omega arith
  at_least (code.loop t body rest) here = omega arith
  at_least (code.choice t body other rest) here = omega arith

  -- a saturated count is at the greatest number already
  stepped : (rest : Code) (next most total : ℕ) → most ≤ greatest → total ≡ max (max most (min next greatest)) (min (peak m heights rest (min next greatest)) greatest) → total ≡ max most (min (peak m heights rest next) greatest)
  stepped rest next most total small e = by_test (leb_tells next greatest)
    where
      by_test : ((leb next greatest ≡ true) × (next ≤ greatest)) ⊎ ((leb next greatest ≡ false) × (greatest < next)) → total ≡ max most (min (peak m heights rest next) greatest)
      by_test (inl h) =
          let fits = h.1 in
          let same : min next greatest ≡ next = omega (arith, fits) in
          let f = subst (λ x. total ≡ max (max most x) (min (peak m heights rest x) greatest)) same e in
          let l = at_least rest next in
          omega (arith, f, l, fits)
      by_test (inr h) =
          let past = h.1 in
          let same : min next greatest ≡ greatest = omega (arith, past) in
          let f = subst (λ x. total ≡ max (max most x) (min (peak m heights rest x) greatest)) same e in
          let l = at_least rest next in
          omega (arith, f, l, past, small)

  module _ (table : List ℕ) where
    -- the height of a call is in the table
    abbrev pub IsTold : ℕ → Type 0
    IsTold f = height_at table f ≡ heights f

    -- the greatest count is the greatest height, up to the greatest number
    pub capped : (c : Code) (s : StackHeight) → AllByRecursion IsTold (calls_of c) → s.here ≤ s.most → s.most ≤ greatest → (with_code (arity_table m) table s c).most ≡ max s.most (min (peak m heights c s.here) greatest)
    capped code.end s k low small = omega (arith, low, small)
    capped (code.plain p rest) s k low small =
        let h = capped rest (stepping (plain_arity p) s) k (omega arith) (omega (arith, small)) in
        one s.here s.most _ _ low small (stepped rest (after (plain_arity p) s.here) s.most _ small h)
    capped (code.branch b rest) s k low small =
        let h = capped rest (stepping (branch_arity b) s) k (omega arith) (omega (arith, small)) in
        one s.here s.most _ _ low small (stepped rest (after (branch_arity b) s.here) s.most _ small h)
    capped (code.call f rest) s k low small =
        let a = call_arity m f in
        let most = max (min (s.here - a.takes + height_at table f) greatest) s.most in
        let h = capped rest (with_call (arity_table m) table f s) k.1 (omega arith) (omega (arith, small)) in
        let n = stepped rest (after a s.here) most _ (omega (arith, small)) h in
        called s.here s.most (s.here - a.takes) (height_at table f) (heights f) _ _ low small k.0 n
    capped (code.call_indirect t rest) s k low small = one s.here s.most _ _ low small (capped rest s k low small)
    capped (code.unreachable rest) s k low small = one s.here s.most _ _ low small (capped rest s k low small)
    capped (code.block t body rest) s k low small =
        let p = parts IsTold (calls_of body) (calls_of rest) k in
        let inside = (with_code (arity_table m) table ground_level body).most in
        let e = stops s.here inside (peak m heights body 0) (capped body ground_level p.0 (omega arith) (omega arith)) in
        let h = capped rest (stepping (block_arity t) (reaching inside s)) p.1 (omega arith) (omega (arith, small)) in
        let n = stepped rest (after (block_arity t) s.here) (max (min (s.here + inside) greatest) s.most) _ (omega (arith, small)) h in
        held s.here s.most (peak m heights body 0) _ _ small (subst (λ x. (with_code (arity_table m) table s (code.block t body rest)).most ≡ max (max x s.most) (min (peak m heights rest (after (block_arity t) s.here)) greatest)) e n)
    capped (code.loop t body rest) s k low small =
        let p = parts IsTold (calls_of body) (calls_of rest) k in
        let inside = (with_code (arity_table m) table ground_level body).most in
        let e = stops s.here inside (peak m heights body 0) (capped body ground_level p.0 (omega arith) (omega arith)) in
        let h = capped rest (stepping (block_arity t) (reaching inside s)) p.1 (omega arith) (omega (arith, small)) in
        let n = stepped rest (after (block_arity t) s.here) (max (min (s.here + inside) greatest) s.most) _ (omega (arith, small)) h in
        held s.here s.most (peak m heights body 0) _ _ small (subst (λ x. (with_code (arity_table m) table s (code.loop t body rest)).most ≡ max (max x s.most) (min (peak m heights rest (after (block_arity t) s.here)) greatest)) e n)
    capped (code.choice t body other rest) s k low small =
        let p = parts IsTold (calls_of body) (calls_of other ++ calls_of rest) k in
        let q = parts IsTold (calls_of other) (calls_of rest) p.1 in
        let inside = (with_code (arity_table m) table ground_level body).most in
        let beside = (with_code (arity_table m) table ground_level other).most in
        let left = after test_arity s.here in
        let d = stops left inside (peak m heights body 0) (capped body ground_level p.0 (omega arith) (omega arith)) in
        let e = stops left beside (peak m heights other 0) (capped other ground_level q.0 (omega arith) (omega arith)) in
        let tested = stepping test_arity s in
        let armed = reaching beside (reaching inside tested) in
        let same : min left greatest ≡ left = omega (arith, low, small) in
        let h = capped rest (stepping (block_arity t) armed) q.1 (omega arith) (omega (arith, small)) in
        let n = stepped rest (after (block_arity t) tested.here) armed.most _ (omega (arith, small)) h in
        let total = (with_code (arity_table m) table s (code.choice t body other rest)).most in
        let r = subst (λ x. total ≡ max (max (min (x + beside) greatest) (max (min (x + inside) greatest) (max s.most x))) (min (peak m heights rest (after (block_arity t) x)) greatest)) same n in
        let u = subst (λ x. total ≡ max (max x (max (min (left + inside) greatest) (max s.most left))) (min (peak m heights rest (after (block_arity t) left)) greatest)) e r in
        let v = subst (λ x. total ≡ max (max (min (left + peak m heights other 0) greatest) (max x (max s.most left))) (min (peak m heights rest (after (block_arity t) left)) greatest)) d u in
        chosen s.here s.most left (peak m heights body 0) (peak m heights other 0) _ _ low small (omega arith) v

  module _ (sizes : ℕ → ℕ) (narrow : (f : ℕ) → (call_arity m f).gives ≤ 1) where
    module _ (table : List ℕ) where
      -- the height of a call is known
      abbrev pub IsKnown : ℕ → Type 0
      IsKnown f = (height_at table f ≡ heights f) × (heights f ≤ sizes f)

      -- no count saturates in code that is small
      pub exact_height : (c : Code) → AllByRecursion IsKnown (calls_of c) → code_size m sizes c ≤ greatest → most_along (arity_table m) table c ≡ peak m heights c 0
      exact_height c k small =
          let told = weaker IsKnown (IsTold table) (λ f h. h.0) (calls_of c) k in
          let e = capped table c ground_level told (omega arith) (omega arith) in
          let b = bounded m heights sizes narrow c 0 (weaker IsKnown (λ f. heights f ≤ sizes f) (λ f h. h.1) (calls_of c) k) in
          omega (arith, e, b, small)

-- ---- a function's own operands

module _ (m : Module) where
  none_told : (fs : List ℕ) → AllByRecursion (IsTold m no_heights []) fs
  none_told [] = tt
  none_told (f ∷ fs) = (refl, none_told fs)

  -- where all heights in the table are 0
  pub own_along : (c : Code) → most_along (arity_table m) [] c ≡ min (peak m no_heights c 0) greatest
  own_along c =
      let e = capped m no_heights [] c ground_level (none_told (calls_of c)) (omega arith) (omega arith) in
      omega (arith, e)
