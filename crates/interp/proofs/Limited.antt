-- Each frame has no more locals and labels than the limits of a module say, and what holds of a host as it is changed goes on
-- to hold.
use Rattle.std.proofs.Common.{◌≡◌, ℕ, zero, suc, ◌+◌, ◌-◌, ◌*◌, ◌≤◌, List, [], ◌∷◌, ◌++◌, Bool, true, false, Option, Some, None, length, nat_lt, nat_le, slice_get, slice_set, map, reverse, take, drop, if◌then◌else◌, refl, sym, subst, arith, length-append}
use Rattle.std.proofs.lemmas.List.{length-map, length-reverse, length-set, length-take}
use Rattle.std.specs.List.{AllByRecursion}
use Rattle.wasm_ast.specs.declared.types.ValType.{ValType}
use Rattle.wasm_ast.specs.declared.types.ValType.TheVariants as val_type
use Rattle.wasm_ast.specs.declared.types.Value.{Value}
use Rattle.wasm_ast.specs.declared.types.Value.TheVariants.{I32, I64}
use Rattle.wasm_ast.specs.declared.types.FuncType.{FuncType}
use Rattle.wasm_ast.specs.declared.numeric.Numeric.{Numeric}
use Rattle.wasm_ast.specs.declared.numeric.Numeric.TheVariants as numeric
use Rattle.wasm_ast.specs.declared.plain.Load.{Load}
use Rattle.wasm_ast.specs.declared.plain.Memory.{Memory}
use Rattle.wasm_ast.specs.declared.plain.Memory.TheVariants as memory
use Rattle.wasm_ast.specs.declared.plain.Variable.{Variable}
use Rattle.wasm_ast.specs.declared.plain.Variable.TheVariants as variable
use Rattle.wasm_ast.specs.declared.plain.Plain.{Plain}
use Rattle.wasm_ast.specs.declared.plain.Plain.TheVariants as plain
use Rattle.wasm_ast.specs.declared.plain.Branch.{Branch}
use Rattle.wasm_ast.specs.declared.plain.Branch.TheVariants as branch
use Rattle.wasm_ast.specs.declared.module.Function.{Function}
use Rattle.wasm_ast.specs.declared.module.Module.{Module}
use Rattle.wasm_ast.specs.Code.{Code}
use Rattle.wasm_ast.specs.Code as code
use Rattle.wasm_ast.specs.Limits.{IsCodeWithin, IsFunctionWithin, length_of_parameters, max_locals, max_nesting}
use Rattle.wasm_ast.specs.Numeric.{bits_of, conversion_from}
use Rattle.semantics.specs.Operations.{division_traps, division_value}
use Rattle.wasm_ast.specs.Values.{zero_of}
use Rattle.wasm_ast.specs.Widths.{store_type}
use Rattle.verified.specs.declared.imports.HostCall.{HostCall}
use Rattle.verified.specs.Effects.{HostEffect, host_effect}
use Rattle.verified.specs.Effects as host
use Rattle.verified.specs.Host.{Host}
use Rattle.verified.specs.Operands.{number, with_number, pop}
use Rattle.semantics.specs.Configuration.{State, with_locals, with_globals, tick, Effect, Gives, Traps, Misses}
use Rattle.semantics.specs.Effects.{value, popped, numeric_effect, discard, select, pushed, variable_effect, load_effect, store_effect, memory_effect, effect, lifted}
use Rattle.semantics.specs.Machine as machine
use Rattle.semantics.specs.Machine.{Machine, Running, Done, Trapped, Stuck, ControlEntry, Label, Frame, Callee, defined, functions_of, landed, arrive, jump, back, leave, label_of, taking, branch_unless_zero, take_branch, gives_one, after_effect, take_call, next_units, take_next, first, carry, advance, run}
use Rattle.semantics.specs.Heights.{callers, held}
use Rattle.interp.proofs.Functions.{of_defined}

-- the levels of blocks that remain to the code running in the entries, of those that a function may have
abbrev pub EntriesWithin : ℕ → List ControlEntry → Type 0
EntriesWithin k [] = k ≡ max_nesting
EntriesWithin k (Label keeps vs target after ∷ ls) =
    IsCodeWithin (suc k) target × IsCodeWithin (suc k) after × EntriesWithin (suc k) ls
EntriesWithin k (Frame keeps xs vs after ∷ ls) =
    (k ≡ max_nesting) × (length xs ≤ max_locals) × ((j : ℕ) × IsCodeWithin j after × EntriesWithin j ls)

abbrev pub CodeWithin : Code → List ControlEntry → Type 0
CodeWithin is ls = (k : ℕ) × IsCodeWithin k is × EntriesWithin k ls

-- ---- what that bounds

pub few_entries : (k : ℕ) (ls : List ControlEntry) → EntriesWithin k ls → length ls + k ≤ max_nesting + callers ls * (1 + max_nesting)
few_entries k [] w = omega (arith, w)
few_entries k (Label keeps vs t a ∷ ls) w = let h = few_entries (suc k) ls w.2 in omega (arith, h)
few_entries k (Frame keeps xs vs a ∷ ls) w = let h = few_entries w.2.0 ls w.2.2 in omega (arith, h, w.0)

pub few_held : (k : ℕ) (ls : List ControlEntry) → EntriesWithin k ls → held ls ≤ callers ls * max_locals
few_held k [] w = omega arith
few_held k (Label keeps vs t a ∷ ls) w = let h = few_held (suc k) ls w.2 in omega (arith, h)
few_held k (Frame keeps xs vs a ∷ ls) w = let h = few_held w.2.0 ls w.2.2 in omega (arith, h, w.1)

-- ---- what holds of a host

abbrev pub HostEffectKeeps : (Host → Type 0) → HostEffect → Type 0
HostEffectKeeps Q (host.Gives vs h) = Q h
HostEffectKeeps Q host.Traps = Unit {0}
HostEffectKeeps Q host.Misses = Unit {0}

abbrev pub Lasts : (Host → Type 0) → Type 0
Lasts Q = (c : HostCall) (vs : List Value) (h : Host) → Q h → HostEffectKeeps Q (host_effect c vs h)

module _ (Q : Host → Type 0) where
  abbrev pub StateWithin : State → Type 0
  StateWithin st = (length st.locals ≤ max_locals) × Q st.host

  abbrev pub MachineWithin : Machine → Type 0
  MachineWithin (Running vs is ls st) = StateWithin st × CodeWithin is ls
  MachineWithin (Done st) = Q st.host
  MachineWithin (Trapped count) = Unit {0}
  MachineWithin (Stuck count) = Unit {0}

  -- ---- entries

  landed_within : (o : Option (List Value)) (is : Code) (ls : List ControlEntry) (st : State) → CodeWithin is ls → StateWithin st → MachineWithin (landed o is ls st)
  landed_within None is ls st c s = tt
  landed_within (Some vs) is ls st c s = (s, c)

  arrive_within : (k : ℕ) (top : Option Value) (ls : List ControlEntry) (st : State) → EntriesWithin k ls → StateWithin st → MachineWithin (arrive top ls st)
  arrive_within k top [] st w s = s.1
  arrive_within k top (Label keeps vs t a ∷ ls) st w s = landed_within (carry keeps top vs) t ls st (suc k, w.0, w.2) s
  arrive_within k top (Frame keeps xs vs a ∷ ls) st w s = landed_within (carry keeps top vs) a ls (with_locals st xs) w.2 (w.1, s.1)

  jump_within : (k l : ℕ) (top : Option Value) (ls : List ControlEntry) (st : State) → EntriesWithin k ls → StateWithin st → MachineWithin (jump l top ls st)
  jump_within k zero top ls st w s = arrive_within k top ls st w s
  jump_within k (suc l) top [] st w s = tt
  jump_within k (suc l) top (Label keeps vs t a ∷ ls) st w s = jump_within (suc k) l top ls st w.2 s
  jump_within k (suc l) top (Frame keeps xs vs a ∷ ls) st w s = tt

  back_within : (k : ℕ) (top : Option Value) (ls : List ControlEntry) (st : State) → EntriesWithin k ls → StateWithin st → MachineWithin (back top ls st)
  back_within k top [] st w s = s.1
  back_within k top (Label keeps vs t a ∷ ls) st w s = back_within (suc k) top ls st w.2 s
  back_within k top (Frame keeps xs vs a ∷ ls) st w s = arrive_within k top (Frame keeps xs vs a ∷ ls) st w s

  leave_within : (k : ℕ) (vs : List Value) (ls : List ControlEntry) (st : State) → EntriesWithin k ls → StateWithin st → MachineWithin (leave vs ls st)
  leave_within k vs [] st w s = s.1
  leave_within k vs (Label keeps us t a ∷ ls) st w s = (s, (suc k, w.1, w.2))
  leave_within k vs (Frame keeps xs us a ∷ ls) st w s = ((w.1, s.1), w.2)

  -- ---- operands that are taken off

  with_within : {E : Type 0} (P : E → Type 0) (missing : E) (o : Option ℕ) (go : ℕ → E) → P missing → ((n : ℕ) → P (go n)) → P (with_number missing o go)
  with_within P missing None go none h = none
  with_within P missing (Some n) go none h = h n

  pop_within : {E : Type 0} (P : E → Type 0) (missing : E) (t : ValType) (vs : List Value) (go : ℕ → List Value → E) → P missing → ((n : ℕ) (us : List Value) → P (go n us)) → P (pop missing t vs go)
  pop_within P missing t [] go none h = none
  pop_within P missing t (v ∷ vs) go none h = with_within P missing (number t v) (λ n. go n vs) none (λ n. h n vs)

  -- ---- effects

  abbrev EffectWithin : Effect → Type 0
  EffectWithin (Gives vs st) = StateWithin st
  EffectWithin Traps = Unit {0}
  EffectWithin Misses = Unit {0}

  popped_within : (t : ValType) (vs : List Value) (go : ℕ → List Value → Effect) → ((n : ℕ) (us : List Value) → EffectWithin (go n us)) → EffectWithin (popped t vs go)
  popped_within t vs go h = pop_within EffectWithin Misses t vs go tt h

  module _ (st : State) (s : StateWithin st) where
    trapped_within : (b : Bool) (vs : List Value) → EffectWithin (if b then Traps else Gives vs st)
    trapped_within true vs = tt
    trapped_within false vs = s

    set_within : (b : Bool) (vs : List Value) (t : State) → StateWithin t → EffectWithin (if b then Gives vs t else Misses)
    set_within true vs t h = h
    set_within false vs t h = tt

    numeric_within : (op : Numeric) (vs : List Value) → EffectWithin (numeric_effect op vs st)
    numeric_within (numeric.Eqz t) vs = popped_within t vs _ (λ x us. s)
    numeric_within (numeric.Comparison t op) vs = popped_within t vs _ (λ y us. popped_within t us _ (λ x ws. s))
    numeric_within (numeric.Unary t op) vs = popped_within t vs _ (λ x us. s)
    numeric_within (numeric.Binary t op) vs = popped_within t vs _ (λ y us. popped_within t us _ (λ x ws. s))
    numeric_within (numeric.Division t op) vs = popped_within t vs _ (λ y us. popped_within t us _ (λ x ws. trapped_within (division_traps (bits_of t) op x y) (value t (division_value (bits_of t) op x y) ∷ ws)))
    numeric_within (numeric.Conversion op) vs = popped_within (conversion_from op) vs _ (λ x us. s)

    discard_within : (vs : List Value) → EffectWithin (discard vs st)
    discard_within [] = tt
    discard_within (v ∷ vs) = s

    select_within : (n : ℕ) (vs : List Value) → EffectWithin (select n vs st)
    select_within n [] = tt
    select_within n (I32 b ∷ []) = tt
    select_within n (I64 b ∷ []) = tt
    select_within n (I32 b ∷ I32 a ∷ vs) = s
    select_within n (I64 b ∷ I64 a ∷ vs) = s
    select_within n (I32 b ∷ I64 a ∷ vs) = tt
    select_within n (I64 b ∷ I32 a ∷ vs) = tt

    pushed_within : (o : Option Value) (vs : List Value) → EffectWithin (pushed o vs st)
    pushed_within None vs = tt
    pushed_within (Some v) vs = s

    assigned : (x : ℕ) (v : Value) → StateWithin (with_locals st (slice_set st.locals x v))
    assigned x v = let same = length-set st.locals x v in (omega (arith, same, s.0), s.1)

    variable_within : (op : Variable) (vs : List Value) → EffectWithin (variable_effect op vs st)
    variable_within (variable.LocalGet x) vs = pushed_within (slice_get st.locals x) vs
    variable_within (variable.LocalSet x) [] = tt
    variable_within (variable.LocalSet x) (v ∷ vs) = set_within (nat_lt x (length st.locals)) vs (with_locals st (slice_set st.locals x v)) (assigned x v)
    variable_within (variable.LocalTee x) [] = tt
    variable_within (variable.LocalTee x) (v ∷ vs) = set_within (nat_lt x (length st.locals)) (v ∷ vs) (with_locals st (slice_set st.locals x v)) (assigned x v)
    variable_within (variable.GlobalGet x) vs = pushed_within (slice_get st.globals x) vs
    variable_within (variable.GlobalSet x) [] = tt
    variable_within (variable.GlobalSet x) (v ∷ vs) = set_within (nat_lt x (length st.globals)) vs (with_globals st (slice_set st.globals x v)) s

    load_within : (op : Load) (o : Option ℕ) (vs : List Value) → EffectWithin (load_effect op o vs st)
    load_within op None vs = tt
    load_within op (Some n) vs = s

    store_within : (o : Option (List ℕ)) (vs : List Value) → EffectWithin (store_effect o vs st)
    store_within None vs = tt
    store_within (Some bytes) vs = s

    memory_within : (op : Memory) (vs : List Value) → EffectWithin (memory_effect op vs st)
    memory_within (memory.Load op a) vs = popped_within val_type.I32 vs _ (λ i us. load_within op _ us)
    memory_within (memory.Store op a) vs = popped_within (store_type op) vs _ (λ n us. popped_within val_type.I32 us _ (λ i ws. store_within _ ws))
    memory_within memory.Size vs = s
    memory_within memory.Grow vs = tt

    plain_within : (p : Plain) (vs : List Value) → EffectWithin (effect p vs st)
    plain_within plain.Nop vs = s
    plain_within plain.Drop vs = discard_within vs
    plain_within plain.Select vs = popped_within val_type.I32 vs _ (λ n us. select_within n us)
    plain_within (plain.Const v) vs = s
    plain_within (plain.Numeric op) vs = numeric_within op vs
    plain_within (plain.Variable op) vs = variable_within op vs
    plain_within (plain.Memory op) vs = memory_within op vs

    lifted_within : (e : HostEffect) → HostEffectKeeps Q e → EffectWithin (lifted st e)
    lifted_within (host.Gives vs h) q = (s.0, q)
    lifted_within host.Traps q = tt
    lifted_within host.Misses q = tt

    call_within : Lasts Q → (c : Option HostCall) (vs : List Value) → EffectWithin (machine.host_effect c vs st)
    call_within lasts None vs = tt
    call_within lasts (Some c) vs = lifted_within (host_effect c vs st.host) (lasts c vs st.host s.1)

  -- ---- steps

  after_within : (e : Effect) (is : Code) (ls : List ControlEntry) (count : ℕ) → EffectWithin e → CodeWithin is ls → MachineWithin (after_effect e is ls count)
  after_within (Gives vs st) is ls count s c = (s, c)
  after_within Traps is ls count s c = tt
  after_within Misses is ls count s c = tt

  taking_within : (vs : List Value) (count : ℕ) (go : ℕ → List Value → Machine) → ((n : ℕ) (us : List Value) → MachineWithin (go n us)) → MachineWithin (taking vs count go)
  taking_within vs count go h = pop_within MachineWithin (Stuck count) val_type.I32 vs go tt h

  unless_within : (n l : ℕ) (vs : List Value) (is : Code) (ls : List ControlEntry) (st : State) → CodeWithin is ls → StateWithin st → MachineWithin (branch_unless_zero n l vs is ls st)
  unless_within zero l vs is ls st c s = (s, c)
  unless_within (suc n) l vs is ls st c s = jump_within c.0 l (first vs) ls st c.2 s

  branch_within : (b : Branch) (vs : List Value) (is : Code) (ls : List ControlEntry) (st : State) → CodeWithin is ls → StateWithin st → MachineWithin (take_branch b vs is ls st)
  branch_within (branch.Br l) vs is ls st c s = jump_within c.0 l (first vs) ls st c.2 s
  branch_within (branch.BrIf l) vs is ls st c s = taking_within vs st.count _ (λ n us. unless_within n l us is ls st c s)
  branch_within (branch.BrTable labels other) vs is ls st c s = taking_within vs st.count _ (λ n us. jump_within c.0 (label_of labels n other) (first us) ls st c.2 s)
  branch_within branch.Return vs is ls st c s = back_within c.0 (first vs) ls st c.2 s

  framed_within : (b : Bool) (x : Machine) (count : ℕ) → MachineWithin x → MachineWithin (if b then x else Stuck count)
  framed_within true x count w = w
  framed_within false x count w = tt

  opened : (f : Function) (t : FuncType) (vs : List Value) → length t.parameters + length f.locals ≤ max_locals → length (reverse (take (length t.parameters) vs) ++ map zero_of f.locals) ≤ max_locals
  opened f t vs h =
      let a = length-append (reverse (take (length t.parameters) vs)) (map zero_of f.locals) in
      let b = length-reverse (take (length t.parameters) vs) in
      let c = length-take (length t.parameters) vs in
      let d = length-map f.locals zero_of in
      omega (arith, a, b, c, d, h)

  enter_within : (f : Function) (o : Option FuncType) (vs : List Value) (is : Code) (ls : List ControlEntry) (st : State) → length_of_parameters o + length f.locals ≤ max_locals → IsCodeWithin max_nesting f.body → CodeWithin is ls → StateWithin st → MachineWithin (machine.enter f o vs is ls st)
  enter_within f None vs is ls st few body c s = tt
  enter_within f (Some t) vs is ls st few body c s =
      framed_within (nat_le (length t.parameters) (length vs)) (Running [] f.body (Frame (gives_one t.results) st.locals (drop (length t.parameters) vs) is ∷ ls) (with_locals st (reverse (take (length t.parameters) vs) ++ map zero_of f.locals))) st.count
      ((opened f t vs few, s.1), (max_nesting, body, (refl, s.0, c)))

  module _ (m : Module) (functions : AllByRecursion (IsFunctionWithin m.types) m.functions) (lasts : Lasts Q) where
    taken_within : (o : Option Callee) → ((f : Function) → o ≡ Some (defined f) → IsFunctionWithin m.types f) → (vs : List Value) (is : Code) (ls : List ControlEntry) (st : State) → CodeWithin is ls → StateWithin st → MachineWithin (take_call m o vs is ls st)
    taken_within None here vs is ls st c s = tt
    taken_within (Some (machine.host call)) here vs is ls st c s = after_within (machine.host_effect call vs st) is ls st.count (call_within st s lasts call vs) c
    taken_within (Some (defined f)) here vs is ls st c s = let w = here f refl in enter_within f (slice_get m.types f.type_number) vs is ls st w.0 w.1 c s

    up : (k : ℕ) → 1 ≤ k → suc (k - 1) ≡ k
    up k h = omega (arith, h)

    -- a block and what stays behind it
    block_within : (k : ℕ) (body is : Code) (target : Code) (keeps : Bool) (vs us : List Value) (ls : List ControlEntry) (st : State) → 1 ≤ k → IsCodeWithin (k - 1) body → IsCodeWithin k is → IsCodeWithin k target → EntriesWithin k ls → StateWithin st → MachineWithin (Running us body (Label keeps vs target is ∷ ls) st)
    block_within k body is target keeps vs us ls st one inner after to w s =
        let P : ℕ → Type 0 = λ (j : ℕ). IsCodeWithin j target × IsCodeWithin j is × EntriesWithin j ls in
        (s, (k - 1, inner, subst P (sym (up k one)) (to, after, w)))

    arm_within : (k n : ℕ) (body other : Code) → IsCodeWithin k body → IsCodeWithin k other → IsCodeWithin k (machine.arm n body other)
    arm_within k zero body other b o = o
    arm_within k (suc n) body other b o = b

    next_within : (vs : List Value) (is : Code) (ls : List ControlEntry) (st : State) → CodeWithin is ls → StateWithin st → MachineWithin (take_next m vs is ls st)
    next_within vs code.end ls st c s = leave_within c.0 vs ls st c.2 s
    next_within vs (code.plain p is) ls st c s = after_within (effect p vs st) is ls st.count (plain_within st s p vs) (c.0, c.1.1, c.2)
    next_within vs (code.branch b is) ls st c s = branch_within b vs is ls st (c.0, c.1.1, c.2) s
    next_within vs (code.call f is) ls st c s = taken_within (slice_get (functions_of m) f) (of_defined m (IsFunctionWithin m.types) functions f) vs is ls st (c.0, c.1, c.2) s
    next_within vs (code.call_indirect t is) ls st c s = tt
    next_within vs (code.unreachable is) ls st c s = tt
    next_within vs (code.block t body is) ls st c s = block_within c.0 body is is (machine.has_result t) vs [] ls st c.1.0 c.1.1 c.1.2 c.1.2 c.2 s
    next_within vs (code.loop t body is) ls st c s = block_within c.0 body is (code.loop t body is) false vs [] ls st c.1.0 c.1.1 c.1.2 c.1 c.2 s
    next_within vs (code.choice t body other is) ls st c s =
        taking_within vs st.count _ (λ n us. block_within c.0 (machine.arm n body other) is is (machine.has_result t) us [] ls st c.1.0 (arm_within (c.0 - 1) n body other c.1.1 c.1.2) c.1.3 c.1.3 c.2 s)

    pub step_within : (x : Machine) → MachineWithin x → MachineWithin (advance m x)
    step_within (Running vs code.end ls st) w = leave_within w.1.0 vs ls st w.1.2 w.0
    step_within (Running vs (code.plain p is) ls st) w = next_within vs (code.plain p is) ls (tick (next_units m (code.plain p is)) st) w.1 w.0
    step_within (Running vs (code.branch b is) ls st) w = next_within vs (code.branch b is) ls (tick (next_units m (code.branch b is)) st) w.1 w.0
    step_within (Running vs (code.call f is) ls st) w = next_within vs (code.call f is) ls (tick (next_units m (code.call f is)) st) w.1 w.0
    step_within (Running vs (code.call_indirect t is) ls st) w = tt
    step_within (Running vs (code.unreachable is) ls st) w = tt
    step_within (Running vs (code.block t body is) ls st) w = next_within vs (code.block t body is) ls (tick (next_units m (code.block t body is)) st) w.1 w.0
    step_within (Running vs (code.loop t body is) ls st) w = next_within vs (code.loop t body is) ls (tick (next_units m (code.loop t body is)) st) w.1 w.0
    step_within (Running vs (code.choice t body other is) ls st) w = next_within vs (code.choice t body other is) ls (tick (next_units m (code.choice t body other is)) st) w.1 w.0
    step_within (Done st) w = w
    step_within (Trapped count) w = tt
    step_within (Stuck count) w = tt

    pub run_within : (n : ℕ) (x : Machine) → MachineWithin x → MachineWithin (run m n x)
    run_within zero x w = w
    run_within (suc n) x w = run_within n (advance m x) (step_within x w)
