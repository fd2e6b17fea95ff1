-- A step counts its instruction's units and no more, and comes nearer to the end of the budget.
use Rattle.std.proofs.Common.{◌≡◌, ℕ, zero, suc, ◌+◌, ◌≤◌, List, [], ◌∷◌, ◌++◌, Bool, true, false, Option, Some, None, length, nat_lt, nat_le, slice_get, slice_set, map, reverse, take, drop, if◌then◌else◌, refl, ◌∙◌, arith}
use Rattle.wasm_ast.specs.declared.types.ValType.{ValType}
use Rattle.wasm_ast.specs.declared.types.ValType.TheVariants as val_type
use Rattle.wasm_ast.specs.declared.types.Value.{Value}
use Rattle.wasm_ast.specs.declared.types.Value.TheVariants.{I32, I64}
use Rattle.wasm_ast.specs.declared.types.FuncType.{FuncType}
use Rattle.wasm_ast.specs.declared.numeric.Numeric.{Numeric}
use Rattle.wasm_ast.specs.declared.numeric.Numeric.TheVariants as numeric
use Rattle.wasm_ast.specs.declared.plain.Load.{Load}
use Rattle.wasm_ast.specs.declared.plain.Memory.{Memory}
use Rattle.wasm_ast.specs.declared.plain.Memory.TheVariants as memory
use Rattle.wasm_ast.specs.declared.plain.Variable.{Variable}
use Rattle.wasm_ast.specs.declared.plain.Variable.TheVariants as variable
use Rattle.wasm_ast.specs.declared.plain.Plain.{Plain}
use Rattle.wasm_ast.specs.declared.plain.Plain.TheVariants as plain
use Rattle.wasm_ast.specs.declared.plain.Branch.{Branch}
use Rattle.wasm_ast.specs.declared.plain.Branch.TheVariants as branch
use Rattle.wasm_ast.specs.declared.module.Function.{Function}
use Rattle.wasm_ast.specs.declared.module.Module.{Module}
use Rattle.wasm_ast.specs.Code.{Code}
use Rattle.wasm_ast.specs.Code as code
use Rattle.wasm_ast.specs.Numeric.{bits_of, conversion_from}
use Rattle.semantics.specs.Operations.{division_traps, division_value}
use Rattle.wasm_ast.specs.Values.{zero_of}
use Rattle.wasm_ast.specs.Widths.{store_type}
use Rattle.verified.specs.declared.imports.HostCall.{HostCall}
use Rattle.verified.specs.Effects.{HostEffect, host_effect}
use Rattle.verified.specs.Effects as host
use Rattle.verified.specs.Operands.{number, with_number}
use Rattle.semantics.specs.Configuration.{State, with_locals, with_globals, tick, Effect, Gives, Traps, Misses}
use Rattle.semantics.specs.Effects.{value, popped, numeric_effect, discard, select, pushed, variable_effect, load_effect, store_effect, memory_effect, effect, lifted}
use Rattle.semantics.specs.Machine as machine
use Rattle.semantics.specs.Machine.{Machine, Running, Done, Trapped, Stuck, ControlEntry, Label, Frame, Callee, defined, functions_of, landed, arrive, jump, back, leave, label_of, taking, branch_unless_zero, take_branch, gives_one, after_effect, take_call, next_units, take_next, first, carry, advance}

-- ---- effects leave the count as it is

abbrev Keeps : ℕ → Effect → Type 0
Keeps k (Gives vs st) = st.count ≡ k
Keeps k Traps = Unit {0}
Keeps k Misses = Unit {0}

keeps_with : (k : ℕ) (o : Option ℕ) (go : ℕ → Effect) → ((n : ℕ) → Keeps k (go n)) → Keeps k (with_number Misses o go)
keeps_with k None go h = tt
keeps_with k (Some n) go h = h n

keeps_popped : (k : ℕ) (t : ValType) (vs : List Value) (go : ℕ → List Value → Effect) → ((n : ℕ) (us : List Value) → Keeps k (go n us)) → Keeps k (popped t vs go)
keeps_popped k t [] go h = tt
keeps_popped k t (v ∷ vs) go h = keeps_with k (number t v) (λ n. go n vs) (λ n. h n vs)

module _ (st : State) where
  keeps_trap_if : (b : Bool) (vs : List Value) → Keeps st.count (if b then Traps else Gives vs st)
  keeps_trap_if true vs = tt
  keeps_trap_if false vs = refl

  keeps_if : (b : Bool) (vs : List Value) (s : State) → s.count ≡ st.count → Keeps st.count (if b then Gives vs s else Misses)
  keeps_if true vs s e = e
  keeps_if false vs s e = tt

  keeps_numeric : (op : Numeric) (vs : List Value) → Keeps st.count (numeric_effect op vs st)
  keeps_numeric (numeric.Eqz t) vs = keeps_popped st.count t vs _ (λ x us. refl)
  keeps_numeric (numeric.Comparison t op) vs = keeps_popped st.count t vs _ (λ y us. keeps_popped st.count t us _ (λ x ws. refl))
  keeps_numeric (numeric.Unary t op) vs = keeps_popped st.count t vs _ (λ x us. refl)
  keeps_numeric (numeric.Binary t op) vs = keeps_popped st.count t vs _ (λ y us. keeps_popped st.count t us _ (λ x ws. refl))
  keeps_numeric (numeric.Division t op) vs = keeps_popped st.count t vs _ (λ y us. keeps_popped st.count t us _ (λ x ws. keeps_trap_if (division_traps (bits_of t) op x y) (value t (division_value (bits_of t) op x y) ∷ ws)))
  keeps_numeric (numeric.Conversion op) vs = keeps_popped st.count (conversion_from op) vs _ (λ x us. refl)

  keeps_discard : (vs : List Value) → Keeps st.count (discard vs st)
  keeps_discard [] = tt
  keeps_discard (v ∷ vs) = refl

  keeps_select : (n : ℕ) (vs : List Value) → Keeps st.count (select n vs st)
  keeps_select n [] = tt
  keeps_select n (I32 b ∷ []) = tt
  keeps_select n (I64 b ∷ []) = tt
  keeps_select n (I32 b ∷ I32 a ∷ vs) = refl
  keeps_select n (I64 b ∷ I64 a ∷ vs) = refl
  keeps_select n (I32 b ∷ I64 a ∷ vs) = tt
  keeps_select n (I64 b ∷ I32 a ∷ vs) = tt

  keeps_pushed : (o : Option Value) (vs : List Value) → Keeps st.count (pushed o vs st)
  keeps_pushed None vs = tt
  keeps_pushed (Some v) vs = refl

  keeps_variable : (op : Variable) (vs : List Value) → Keeps st.count (variable_effect op vs st)
  keeps_variable (variable.LocalGet x) vs = keeps_pushed (slice_get st.locals x) vs
  keeps_variable (variable.LocalSet x) [] = tt
  keeps_variable (variable.LocalSet x) (v ∷ vs) = keeps_if (nat_lt x (length st.locals)) vs (with_locals st (slice_set st.locals x v)) refl
  keeps_variable (variable.LocalTee x) [] = tt
  keeps_variable (variable.LocalTee x) (v ∷ vs) = keeps_if (nat_lt x (length st.locals)) (v ∷ vs) (with_locals st (slice_set st.locals x v)) refl
  keeps_variable (variable.GlobalGet x) vs = keeps_pushed (slice_get st.globals x) vs
  keeps_variable (variable.GlobalSet x) [] = tt
  keeps_variable (variable.GlobalSet x) (v ∷ vs) = keeps_if (nat_lt x (length st.globals)) vs (with_globals st (slice_set st.globals x v)) refl

  keeps_load : (op : Load) (o : Option ℕ) (vs : List Value) → Keeps st.count (load_effect op o vs st)
  keeps_load op None vs = tt
  keeps_load op (Some n) vs = refl

  keeps_store : (o : Option (List ℕ)) (vs : List Value) → Keeps st.count (store_effect o vs st)
  keeps_store None vs = tt
  keeps_store (Some bytes) vs = refl

  keeps_memory : (op : Memory) (vs : List Value) → Keeps st.count (memory_effect op vs st)
  keeps_memory (memory.Load op a) vs = keeps_popped st.count val_type.I32 vs _ (λ i us. keeps_load op _ us)
  keeps_memory (memory.Store op a) vs = keeps_popped st.count (store_type op) vs _ (λ n us. keeps_popped st.count val_type.I32 us _ (λ i ws. keeps_store _ ws))
  keeps_memory memory.Size vs = refl
  keeps_memory memory.Grow vs = tt

  keeps_plain : (p : Plain) (vs : List Value) → Keeps st.count (effect p vs st)
  keeps_plain plain.Nop vs = refl
  keeps_plain plain.Drop vs = keeps_discard vs
  keeps_plain plain.Select vs = keeps_popped st.count val_type.I32 vs _ (λ n us. keeps_select n us)
  keeps_plain (plain.Const v) vs = refl
  keeps_plain (plain.Numeric op) vs = keeps_numeric op vs
  keeps_plain (plain.Variable op) vs = keeps_variable op vs
  keeps_plain (plain.Memory op) vs = keeps_memory op vs

  keeps_lifted : (e : HostEffect) → Keeps st.count (lifted st e)
  keeps_lifted (host.Gives vs h) = refl
  keeps_lifted host.Traps = tt
  keeps_lifted host.Misses = tt

  keeps_call : (c : Option HostCall) (vs : List Value) → Keeps st.count (machine.host_effect c vs st)
  keeps_call None vs = tt
  keeps_call (Some c) vs = keeps_lifted (host_effect c vs st.host)

-- ---- one step

-- this many units were counted, and there are at most this many entries
abbrev pub Within : ℕ → ℕ → Machine → Type 0
Within k n (Running vs is ls st) = (st.count ≡ k) × (length ls ≤ n)
Within k n (Done st) = st.count ≡ k
Within k n (Trapped c) = c ≡ k
Within k n (Stuck c) = c ≡ k

module _ (k n : ℕ) where
  within_landed : (o : Option (List Value)) (is : Code) (ls : List ControlEntry) (st : State) → st.count ≡ k → length ls ≤ n → Within k n (landed o is ls st)
  within_landed None is ls st e h = e
  within_landed (Some vs) is ls st e h = (e, h)

  within_arrive : (top : Option Value) (ls : List ControlEntry) (st : State) → st.count ≡ k → length ls ≤ n → Within k n (arrive top ls st)
  within_arrive top [] st e h = e
  within_arrive top (Label keeps vs t a ∷ ls) st e h = within_landed (carry keeps top vs) t ls st e (omega (arith, h))
  within_arrive top (Frame keeps xs vs a ∷ ls) st e h = within_landed (carry keeps top vs) a ls (with_locals st xs) e (omega (arith, h))

  within_jump : (l : ℕ) (top : Option Value) (ls : List ControlEntry) (st : State) → st.count ≡ k → length ls ≤ n → Within k n (jump l top ls st)
  within_jump zero top ls st e h = within_arrive top ls st e h
  within_jump (suc l) top [] st e h = e
  within_jump (suc l) top (Label keeps vs t a ∷ ls) st e h = within_jump l top ls st e (omega (arith, h))
  within_jump (suc l) top (Frame keeps xs vs a ∷ ls) st e h = e

  within_back : (top : Option Value) (ls : List ControlEntry) (st : State) → st.count ≡ k → length ls ≤ n → Within k n (back top ls st)
  within_back top [] st e h = e
  within_back top (Label keeps vs t a ∷ ls) st e h = within_back top ls st e (omega (arith, h))
  within_back top (Frame keeps xs vs a ∷ ls) st e h = within_arrive top (Frame keeps xs vs a ∷ ls) st e h

  within_leave : (vs : List Value) (ls : List ControlEntry) (st : State) → st.count ≡ k → length ls ≤ n → Within k n (leave vs ls st)
  within_leave vs [] st e h = e
  within_leave vs (Label keeps us t a ∷ ls) st e h = (e, omega (arith, h))
  within_leave vs (Frame keeps xs us a ∷ ls) st e h = (e, omega (arith, h))

  within_effect : (f : Effect) (is : Code) (ls : List ControlEntry) (c : ℕ) → Keeps c f → c ≡ k → length ls ≤ n → Within k n (after_effect f is ls c)
  within_effect (Gives vs st) is ls c g e h = (g ∙ e, h)
  within_effect Traps is ls c g e h = e
  within_effect Misses is ls c g e h = e

  within_with : (c : ℕ) (o : Option ℕ) (go : ℕ → Machine) → c ≡ k → ((m : ℕ) → Within k n (go m)) → Within k n (with_number (Stuck c) o go)
  within_with c None go e h = e
  within_with c (Some m) go e h = h m

  within_taking : (vs : List Value) (c : ℕ) (go : ℕ → List Value → Machine) → c ≡ k → ((m : ℕ) (us : List Value) → Within k n (go m us)) → Within k n (taking vs c go)
  within_taking [] c go e h = e
  within_taking (v ∷ vs) c go e h = within_with c (number val_type.I32 v) (λ m. go m vs) e (λ m. h m vs)

  within_unless : (m l : ℕ) (vs : List Value) (is : Code) (ls : List ControlEntry) (st : State) → st.count ≡ k → length ls ≤ n → Within k n (branch_unless_zero m l vs is ls st)
  within_unless zero l vs is ls st e h = (e, h)
  within_unless (suc m) l vs is ls st e h = within_jump l (first vs) ls st e h

  within_branch : (b : Branch) (vs : List Value) (is : Code) (ls : List ControlEntry) (st : State) → st.count ≡ k → length ls ≤ n → Within k n (take_branch b vs is ls st)
  within_branch (branch.Br l) vs is ls st e h = within_jump l (first vs) ls st e h
  within_branch (branch.BrIf l) vs is ls st e h = within_taking vs st.count _ e (λ m us. within_unless m l us is ls st e h)
  within_branch (branch.BrTable labels other) vs is ls st e h =
      within_taking vs st.count _ e (λ m us. within_jump (label_of labels m other) (first us) ls st e h)
  within_branch branch.Return vs is ls st e h = within_back (first vs) ls st e h

  within_framed : (b : Bool) (is after : Code) (keeps : Bool) (xs us : List Value) (ls : List ControlEntry) (st : State) (c : ℕ) → st.count ≡ k → c ≡ k → suc (length ls) ≤ n → Within k n (if b then Running [] is (Frame keeps xs us after ∷ ls) st else Stuck c)
  within_framed true is after keeps xs us ls st c e g h = (e, h)
  within_framed false is after keeps xs us ls st c e g h = g

  within_enter : (f : Function) (o : Option FuncType) (vs : List Value) (is : Code) (ls : List ControlEntry) (st : State) → st.count ≡ k → suc (length ls) ≤ n → Within k n (machine.enter f o vs is ls st)
  within_enter f None vs is ls st e h = e
  within_enter f (Some t) vs is ls st e h =
      within_framed (nat_le (length t.parameters) (length vs)) f.body is (gives_one t.results) st.locals (drop (length t.parameters) vs) ls (with_locals st (reverse (take (length t.parameters) vs) ++ map zero_of f.locals)) st.count e e h

  within_call : (m : Module) (o : Option Callee) (vs : List Value) (is : Code) (ls : List ControlEntry) (st : State) → st.count ≡ k → suc (length ls) ≤ n → Within k n (take_call m o vs is ls st)
  within_call m None vs is ls st e h = e
  within_call m (Some (machine.host c)) vs is ls st e h = within_effect _ is ls st.count (keeps_call st c vs) e (omega (arith, h))
  within_call m (Some (defined f)) vs is ls st e h = within_enter f (slice_get m.types f.type_number) vs is ls st e h

  within_next : (m : Module) (vs : List Value) (is : Code) (ls : List ControlEntry) (st : State) → st.count ≡ k → suc (length ls) ≤ n → Within k n (take_next m vs is ls st)
  within_next m vs code.end ls st e h = within_leave vs ls st e (omega (arith, h))
  within_next m vs (code.plain p is) ls st e h = within_effect _ is ls st.count (keeps_plain st p vs) e (omega (arith, h))
  within_next m vs (code.branch b is) ls st e h = within_branch b vs is ls st e (omega (arith, h))
  within_next m vs (code.call f is) ls st e h = within_call m (slice_get (functions_of m) f) vs is ls st e h
  within_next m vs (code.call_indirect t is) ls st e h = e
  within_next m vs (code.unreachable is) ls st e h = e
  within_next m vs (code.block t body is) ls st e h = (e, h)
  within_next m vs (code.loop t body is) ls st e h = (e, h)
  within_next m vs (code.choice t body other is) ls st e h = within_taking vs st.count _ e (λ i us. (e, h))

ticked : (m : Module) (vs : List Value) (next : Code) (ls : List ControlEntry) (st : State) → Within (st.count + next_units m next) (suc (length ls)) (take_next m vs next ls (tick (next_units m next) st))
ticked m vs next ls st = within_next (st.count + next_units m next) (suc (length ls)) m vs next ls (tick (next_units m next) st) refl (omega arith)

pub within : (m : Module) (vs : List Value) (next : Code) (ls : List ControlEntry) (st : State) → Within (st.count + next_units m next) (suc (length ls)) (advance m (Running vs next ls st))
within m vs code.end ls st = within_leave (st.count + 0) (suc (length ls)) vs ls st (omega arith) (omega arith)
within m vs (code.plain p is) ls st = ticked m vs (code.plain p is) ls st
within m vs (code.branch b is) ls st = ticked m vs (code.branch b is) ls st
within m vs (code.call f is) ls st = ticked m vs (code.call f is) ls st
within m vs (code.call_indirect t is) ls st = ticked m vs (code.call_indirect t is) ls st
within m vs (code.unreachable is) ls st = ticked m vs (code.unreachable is) ls st
within m vs (code.block t body is) ls st = ticked m vs (code.block t body is) ls st
within m vs (code.loop t body is) ls st = ticked m vs (code.loop t body is) ls st
within m vs (code.choice t body other is) ls st = ticked m vs (code.choice t body other is) ls st
