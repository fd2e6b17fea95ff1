-- What instructions do that branch, or hold code.
use Rattle.std.proofs.Common.{◌≡◌, ◌≢◌, ℕ, zero, suc, ◌+◌, ◌-◌, ◌≤◌, max, List, [], ◌∷◌, ◌++◌, length, Option, Some, None, refl, sym, ap, ◌∙◌, subst, arith}
use Rattle.std.specs.List.{AllByRecursion}
use Rattle.wasm_ast.specs.declared.types.ValType.{ValType}
use Rattle.wasm_ast.specs.declared.types.ValType.TheVariants as val_type
use Rattle.wasm_ast.specs.declared.types.Value.{Value}
use Rattle.wasm_ast.specs.declared.types.Value.TheVariants.{I32}
use Rattle.wasm_ast.specs.declared.plain.Branch.TheVariants as branch
use Rattle.wasm_ast.specs.declared.module.Module.{Module}
use Rattle.wasm_ast.specs.declared.body.Instr.TheVariants as instr
use Rattle.wasm_ast.specs.Code.{Code}
use Rattle.wasm_ast.specs.Code as code
use Rattle.verified.specs.Weights.{branch_units, units_of}
use Rattle.verified.specs.LeastUnits.{branch_least, units_least}
use Rattle.verified.specs.declared.requirements.Requirement.TheVariants as requirement
use Rattle.verified.specs.Kinds.{Kind, kinds, requirements, AllForget}
use Rattle.verified.specs.Memory.{memory_bytes, number_of}
use Rattle.verified.specs.Known.{Context, LabelTakes, BranchKnown, Changes}
use Rattle.semantics.specs.Configuration.{State, tick, Effect}
use Rattle.semantics.specs.Machine.{ControlEntry, Label, Machine, Running, Stuck, jump, first, label_of, branch_unless_zero, has_result, arm, after_effect, advance}
use Rattle.semantics.specs.Heights.{beneath, callers}
use Rattle.semantics.proofs.Values.{HasKinds, IsTop, Takes, takes, top_is, popped_any, forget_all}
use Rattle.semantics.proofs.Sound.{Sound, Given, ticked}
use Rattle.semantics.proofs.Plains.{context}
use Rattle.semantics.proofs.Reach.{IsLow, arrives, Fits, Names, Named, Exit, Falls, Branches, Returns, Reach, Reaches, GoodCode, below_one, comes_one, larger, block}

module _ (m : Module) (H F : ℕ) (R : ℕ → ℕ → Type 0) where
  -- an instruction that only gives an effect
  pub acts : (u : ℕ) → 1 ≤ u → (c : Context) (N : ℕ → Type 0) (x : Machine) (effect : Effect) (n : ℕ) (is : Code) (ls : List ControlEntry) (st : State) (to : List Kind) → IsLow H F R x → advance m x ≡ after_effect effect is ls n → Given m c.locals effect (tick u st) to → Reaches m H F R c N u x is ls st to
  acts u one c N x effect n is ls st to low e g =
      (Falls g.values, record { final = g.state; steps = 1; by = comes_one m H F R x _ low (e ∙ ap (λ (y : Effect). after_effect y is ls n) g.gives); fits = g.kinds; named = tt; sound = g.sound; taken = g.taken; items = g.items; cost = omega (arith, g.counts); short = omega (arith, g.counts, one) })

  -- what is forgotten of the operands that are left
  pub forgets : (c : Context) (N : ℕ → Type 0) (s : ℕ) (x : Machine) (is : Code) (ls : List ControlEntry) (st : State) (given mid : List Kind) → AllForget given mid → Reaches m H F R c N s x is ls st given → Reaches m H F R c N s x is ls st mid
  forgets c N s x is ls st given mid a p = (p.0, forgotten p.0 p.1)
    where
      forgotten : (e : Exit) → Reach m H F R c N s x is ls st given e → Reach m H F R c N s x is ls st mid e
      forgotten (Falls vs) q = record { final = q.final; steps = q.steps; by = q.by; fits = forget_all vs given mid a q.fits; named = tt; sound = q.sound; taken = q.taken; items = q.items; cost = q.cost; short = q.short }
      forgotten (Branches l top) q = record { final = q.final; steps = q.steps; by = q.by; fits = q.fits; named = q.named; sound = q.sound; taken = q.taken; items = q.items; cost = q.cost; short = q.short }
      forgotten (Returns top) q = record { final = q.final; steps = q.steps; by = q.by; fits = q.fits; named = q.named; sound = q.sound; taken = q.taken; items = q.items; cost = q.cost; short = q.short }

  -- ---- branches

  exits : (u : ℕ) → 1 ≤ u → (c : Context) (N : ℕ → Type 0) (e : Exit) (x : Machine) (is : Code) (ls : List ControlEntry) (st : State) (to : List Kind) → IsLow H F R x → advance m x ≡ arrives e is ls (tick u st) → Fits c to e → Names N e → Sound m c.locals st → Reaches m H F R c N u x is ls st to
  exits u one c N e x is ls st to low a fits named s =
      (e, record { final = tick u st; steps = 1; by = comes_one m H F R x _ low a; fits = fits; named = named; sound = ticked m c.locals u st s; taken = 0; items = omega arith; cost = omega arith; short = omega (arith, one) })

  -- operands that a branch requires stay where it is not taken
  stay : (t : Option ValType) (us ws : List Value) (below : List Kind) → Takes (memory_bytes m) (requirements t) us ws → HasKinds ws below → HasKinds us (kinds t ++ below)
  stay None us ws below k h = subst (λ (xs : List Value). HasKinds xs below) (sym k) h
  stay (Some u) [] ws below k h = absurd k
  stay (Some u) (v ∷ us) ws below k h = (k.0, subst (λ (xs : List Value). HasKinds xs below) (sym k.1) h)

  top_taken : (t : Option ValType) (us ws : List Value) → Takes (memory_bytes m) (requirements t) us ws → IsTop t (first us)
  top_taken None us ws k = tt
  top_taken (Some u) [] ws k = absurd k
  top_taken (Some u) (v ∷ us) ws k = k.0

  label_typed : (c : Context) (t : Option ValType) (labels : List ℕ) (other n : ℕ) → AllByRecursion (LabelTakes c t) labels → LabelTakes c t other → LabelTakes c t (label_of labels n other)
  label_typed c t [] other n a b = b
  label_typed c t (l ∷ labels) other zero a b = a.0
  label_typed c t (l ∷ labels) other (suc n) a b = label_typed c t labels other n a.1 b

  -- the label that is taken is one of the table's
  label_named : (labels : List ℕ) (other n l : ℕ) → label_of labels n other ≡ l → AllByRecursion (λ k. k ≢ l) labels → (other ≢ l) → ⊥
  label_named [] other n l e a b = b e
  label_named (k ∷ labels) other zero l e a b = a.0 e
  label_named (k ∷ labels) other (suc n) l e a b = label_named labels other n l e a.1 b

  module _ (lo : List ValType) (o : Option ValType) (labels : List (Option ValType)) where
    may_branch : (u : ℕ) → 1 ≤ u → (N : ℕ → Type 0) (l : ℕ) (t : Option ValType) (us ws : List Value) (is : Code) (ls : List ControlEntry) (st : State) (x : Machine) (below : List Kind) → LabelTakes (context m lo o labels) t l → Takes (memory_bytes m) (requirements t) us ws → HasKinds ws below → N l → IsLow H F R x → Sound m lo st → (n : ℕ) → advance m x ≡ branch_unless_zero n l us is ls (tick u st) → Reaches m H F R (context m lo o labels) N u x is ls st (kinds t ++ below)
    may_branch u one N l t us ws is ls st x below e k h named low s zero a = exits u one (context m lo o labels) N (Falls us) x is ls st (kinds t ++ below) low a (stay t us ws below k h) tt s
    may_branch u one N l t us ws is ls st x below e k h named low s (suc n) a = exits u one (context m lo o labels) N (Branches l (first us)) x is ls st (kinds t ++ below) low a (t, e, top_taken t us ws k) named s

    -- whatever would come next
    pub br_good : (l : ℕ) (from given to : List Kind) → BranchKnown (context m lo o labels) (branch.Br l) from given → (vs : List Value) (is next : Code) (ls : List ControlEntry) (st : State) → HasKinds vs from → Sound m lo st → IsLow H F R (Running vs (code.branch (branch.Br l) is) ls st) → Reaches m H F R (context m lo o labels) (Named (code.branch (branch.Br l) code.end)) (branch_units (branch.Br l)) (Running vs (code.branch (branch.Br l) is) ls st) next ls st to
    br_good l from given to i vs is next ls st h s low =
        exits (branch_units (branch.Br l)) (branch_least (branch.Br l)) (context m lo o labels) (Named (code.branch (branch.Br l) code.end)) (Branches l (first vs)) (Running vs (code.branch (branch.Br l) is) ls st) next ls st to low refl (i.0, i.1, top_is (memory_bytes m) i.0 vs from i.2.0 i.2.1 h) (λ w. w.0 refl) s

    pub br_if_good : (l : ℕ) (from given : List Kind) → BranchKnown (context m lo o labels) (branch.BrIf l) from given → (vs : List Value) (is : Code) (ls : List ControlEntry) (st : State) → HasKinds vs from → Sound m lo st → IsLow H F R (Running vs (code.branch (branch.BrIf l) is) ls st) → Reaches m H F R (context m lo o labels) (Named (code.branch (branch.BrIf l) code.end)) (branch_units (branch.BrIf l)) (Running vs (code.branch (branch.BrIf l) is) ls st) is ls st given
    br_if_good l from given i vs is ls st h s low = taken vs h low
      where
        taken : (vs : List Value) → HasKinds vs from → IsLow H F R (Running vs (code.branch (branch.BrIf l) is) ls st) → Reaches m H F R (context m lo o labels) (Named (code.branch (branch.BrIf l) code.end)) (branch_units (branch.BrIf l)) (Running vs (code.branch (branch.BrIf l) is) ls st) is ls st given
        taken [] h low = let r = takes (memory_bytes m) (requirement.Value val_type.I32 ∷ requirements i.0) [] from i.2.0 i.2.1 h in absurd r.1
        taken (v ∷ us) h low =
            let r = takes (memory_bytes m) (requirement.Value val_type.I32 ∷ requirements i.0) (v ∷ us) from i.2.0 i.2.1 h in
            let e = popped_any (Stuck (st.count + branch_units (branch.BrIf l))) val_type.I32 v us (λ n ws. branch_unless_zero n l ws is ls (tick (branch_units (branch.BrIf l)) st)) r.1.0 in
            subst (Reaches m H F R (context m lo o labels) (Named (code.branch (branch.BrIf l) code.end)) (branch_units (branch.BrIf l)) (Running (v ∷ us) (code.branch (branch.BrIf l) is) ls st) is ls st) (sym i.2.2) (may_branch (branch_units (branch.BrIf l)) (branch_least (branch.BrIf l)) (Named (code.branch (branch.BrIf l) code.end)) l i.0 us r.0 is ls st (Running (v ∷ us) (code.branch (branch.BrIf l) is) ls st) i.2.0 i.1 r.1.1 r.2 (λ w. w.0 refl) low s (number_of v) e)

    pub table_good : (table : List ℕ) (l : ℕ) (from given to : List Kind) → BranchKnown (context m lo o labels) (branch.BrTable table l) from given → (vs : List Value) (is next : Code) (ls : List ControlEntry) (st : State) → HasKinds vs from → Sound m lo st → IsLow H F R (Running vs (code.branch (branch.BrTable table l) is) ls st) → Reaches m H F R (context m lo o labels) (Named (code.branch (branch.BrTable table l) code.end)) (branch_units (branch.BrTable table l)) (Running vs (code.branch (branch.BrTable table l) is) ls st) next ls st to
    table_good table l from given to i vs is next ls st h s low = taken vs h low
      where
        taken : (vs : List Value) → HasKinds vs from → IsLow H F R (Running vs (code.branch (branch.BrTable table l) is) ls st) → Reaches m H F R (context m lo o labels) (Named (code.branch (branch.BrTable table l) code.end)) (branch_units (branch.BrTable table l)) (Running vs (code.branch (branch.BrTable table l) is) ls st) next ls st to
        taken [] h low = let r = takes (memory_bytes m) (requirement.Value val_type.I32 ∷ requirements i.0) [] from i.2.1.0 i.2.1.1 h in absurd r.1
        taken (v ∷ us) h low =
            let r = takes (memory_bytes m) (requirement.Value val_type.I32 ∷ requirements i.0) (v ∷ us) from i.2.1.0 i.2.1.1 h in
            let e = popped_any (Stuck (st.count + branch_units (branch.BrTable table l))) val_type.I32 v us (λ n ws. jump (label_of table n l) (first ws) ls (tick (branch_units (branch.BrTable table l)) st)) r.1.0 in
            exits (branch_units (branch.BrTable table l)) (branch_least (branch.BrTable table l)) (context m lo o labels) (Named (code.branch (branch.BrTable table l) code.end)) (Branches (label_of table (number_of v) l) (first us)) (Running (v ∷ us) (code.branch (branch.BrTable table l) is) ls st) next ls st to low e (i.0, label_typed (context m lo o labels) i.0 table l (number_of v) i.2.0 i.1, top_taken i.0 us r.0 r.1.1) (λ w. label_named table l (number_of v) _ refl w.0.0 w.0.1) s

    pub return_good : (from given to : List Kind) → BranchKnown (context m lo o labels) branch.Return from given → (vs : List Value) (is next : Code) (ls : List ControlEntry) (st : State) → HasKinds vs from → Sound m lo st → IsLow H F R (Running vs (code.branch branch.Return is) ls st) → Reaches m H F R (context m lo o labels) (Named (code.branch branch.Return code.end)) (branch_units branch.Return) (Running vs (code.branch branch.Return is) ls st) next ls st to
    return_good from given to i vs is next ls st h s low =
        exits (branch_units branch.Return) (branch_least branch.Return) (context m lo o labels) (Named (code.branch branch.Return code.end)) (Returns (first vs)) (Running vs (code.branch branch.Return is) ls st) next ls st to low refl (top_is (memory_bytes m) o vs from i.0 i.1 h) tt s

    -- the operands that a branch leaves alone, where an i32 stands on top
    pub item_tested : (t : Option ValType) (from given : List Kind) → Changes (context m lo o labels) (requirement.Value val_type.I32 ∷ requirements t) (kinds t) from given → (b : ℕ) (vs : List Value) → HasKinds (I32 b ∷ vs) from → IsTop t (first vs) × HasKinds vs given
    item_tested t from given i b vs h =
        let r = takes (memory_bytes m) (requirement.Value val_type.I32 ∷ requirements t) (I32 b ∷ vs) from i.0 i.1 h in
        (top_taken t vs r.0 r.1.1, subst (HasKinds vs) (sym i.2) (stay t vs r.0 i.0 r.1.1 r.2))

    -- ---- if

    module _ (t : Option ValType) (a b : Code) (sa sb ha hb r : ℕ) (ga : GoodCode m H F R (context m lo o (t ∷ labels)) sa ha r a [] (kinds t)) (gb : GoodCode m H F R (context m lo o (t ∷ labels)) sb hb r b [] (kinds t)) (one : 1 ≤ r) (is : Code) (ls : List ControlEntry) (shallow : callers ls + r ≤ F) where
      arm_taken : (v : Value) (us : List Value) (st : State) (below : List Kind) → HasKinds us below → Sound m lo st → beneath ls + (length us + max ha hb) ≤ H → length (kinds t) + (length us + beneath ls) ≤ H → IsLow H F R (Running (v ∷ us) (code.choice t a b is) ls st) → (n : ℕ) → advance m (Running (v ∷ us) (code.choice t a b is) ls st) ≡ Running [] (arm n a b) (Label (has_result t) us is is ∷ ls) (tick (units_of m (instr.If t a b)) st) → Reaches m H F R (context m lo o labels) (Named (code.choice t a b code.end)) (units_of m (instr.If t a b) + (sa + sb)) (Running (v ∷ us) (code.choice t a b is) ls st) is ls st (kinds t ++ below)
      arm_taken v us st below h s room after low zero e =
          let inner = Label (has_result t) us is is ∷ ls in
          let q = gb [] inner (tick (units_of m (instr.If t a b)) st) tt (ticked m lo (units_of m (instr.If t a b)) st s) (omega (arith, room)) shallow in
          let c = subst (λ (y : Machine). Reach m H F R (context m lo o (t ∷ labels)) (Named b) sb y code.end inner (tick (units_of m (instr.If t a b)) st) (kinds t) q.0) (sym e) q.1 in
          larger m H F R (context m lo o labels) (Named (code.choice t a b code.end)) (Named (code.choice t a b code.end)) (λ l k. k) (units_of m (instr.If t a b) + sb) (units_of m (instr.If t a b) + (sa + sb)) _ is ls st _ (omega arith) (block m H F R (units_of m (instr.If t a b)) (units_least m (instr.If t a b)) (context m lo o labels) (Named b) (Named (code.choice t a b code.end)) (λ l k w. k (below_one l b w.1)) t sb (Running (v ∷ us) (code.choice t a b is) ls st) us is ls st below q.0 c h low after (omega (arith, shallow, one)))
      arm_taken v us st below h s room after low (suc n) e =
          let inner = Label (has_result t) us is is ∷ ls in
          let q = ga [] inner (tick (units_of m (instr.If t a b)) st) tt (ticked m lo (units_of m (instr.If t a b)) st s) (omega (arith, room)) shallow in
          let c = subst (λ (y : Machine). Reach m H F R (context m lo o (t ∷ labels)) (Named a) sa y code.end inner (tick (units_of m (instr.If t a b)) st) (kinds t) q.0) (sym e) q.1 in
          larger m H F R (context m lo o labels) (Named (code.choice t a b code.end)) (Named (code.choice t a b code.end)) (λ l k. k) (units_of m (instr.If t a b) + sa) (units_of m (instr.If t a b) + (sa + sb)) _ is ls st _ (omega arith) (block m H F R (units_of m (instr.If t a b)) (units_least m (instr.If t a b)) (context m lo o labels) (Named a) (Named (code.choice t a b code.end)) (λ l k w. k (below_one l a w.0)) t sa (Running (v ∷ us) (code.choice t a b is) ls st) us is ls st below q.0 c h low after (omega (arith, shallow, one)))

      pub choice_good : (from given : List Kind) → Changes (context m lo o labels) (requirement.Value val_type.I32 ∷ []) (kinds t) from given → (vs : List Value) (st : State) → HasKinds vs from → Sound m lo st → beneath ls + (length vs - 1 + max ha hb) ≤ H → length (kinds t) + (length vs - 1 + beneath ls) ≤ H → IsLow H F R (Running vs (code.choice t a b is) ls st) → Reaches m H F R (context m lo o labels) (Named (code.choice t a b code.end)) (units_of m (instr.If t a b) + (sa + sb)) (Running vs (code.choice t a b is) ls st) is ls st given
      choice_good from given i [] st h s room after low = let r = takes (memory_bytes m) (requirement.Value val_type.I32 ∷ []) [] from i.0 i.1 h in absurd r.1
      choice_good from given i (v ∷ us) st h s room after low =
          let r = takes (memory_bytes m) (requirement.Value val_type.I32 ∷ []) (v ∷ us) from i.0 i.1 h in
          let e = popped_any (Stuck (st.count + units_of m (instr.If t a b))) val_type.I32 v us (λ n ws. Running [] (arm n a b) (Label (has_result t) ws is is ∷ ls) (tick (units_of m (instr.If t a b)) st)) r.1.0 in
          subst (Reaches m H F R (context m lo o labels) (Named (code.choice t a b code.end)) (units_of m (instr.If t a b) + (sa + sb)) (Running (v ∷ us) (code.choice t a b is) ls st) is ls st) (sym i.2) (arm_taken v us st i.0 (subst (λ (ws : List Value). HasKinds ws i.0) (sym r.1.1) r.2) s (omega (arith, room)) (omega (arith, after)) low (number_of v) e)
