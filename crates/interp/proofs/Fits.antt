-- A step keeps values that fit. Except for results, which are new, it makes no value that was not there before.
use Rattle.std.proofs.Common.{ℕ, zero, suc, ◌+◌, List, [], ◌∷◌, ◌++◌, Bool, true, false, Option, Some, None, length, slice_get, map, reverse, take, drop, nat_lt, nat_le, if◌then◌else◌, sym, subst, lit<}
use Rattle.std.specs.Prelude.{slice_set}
use Rattle.std.specs.Int.{cast_signed, w64}
use Rattle.std.proofs.lemmas.List.{reverse-append}
use Rattle.wasm_ast.specs.declared.types.ValType.{ValType}
use Rattle.wasm_ast.specs.declared.types.ValType.TheVariants as val_type
use Rattle.wasm_ast.specs.declared.types.Value.{Value}
use Rattle.wasm_ast.specs.declared.types.Value.TheVariants.{I32, I64}
use Rattle.wasm_ast.specs.declared.types.FuncType.{FuncType}
use Rattle.wasm_ast.specs.declared.numeric.Numeric.{Numeric}
use Rattle.wasm_ast.specs.declared.numeric.Numeric.TheVariants as numeric
use Rattle.wasm_ast.specs.declared.plain.Load.{Load}
use Rattle.wasm_ast.specs.declared.plain.Memory.TheVariants as memory
use Rattle.wasm_ast.specs.declared.plain.MemoryArgument.{MemoryArgument}
use Rattle.wasm_ast.specs.declared.plain.Store.{Store}
use Rattle.wasm_ast.specs.declared.plain.Variable.{Variable}
use Rattle.wasm_ast.specs.declared.plain.Variable.TheVariants as variable
use Rattle.wasm_ast.specs.declared.plain.Plain.TheVariants as plain
use Rattle.wasm_ast.specs.declared.plain.Branch.{Branch}
use Rattle.wasm_ast.specs.declared.plain.Branch.TheVariants as branch
use Rattle.wasm_ast.specs.declared.module.Function.{Function}
use Rattle.wasm_ast.specs.Code.{Code}
use Rattle.wasm_ast.specs.Numeric.{bits_of, conversion_from}
use Rattle.semantics.specs.Operations.{division_traps, division_value}
use Rattle.wasm_ast.specs.Values.{zero_of}
use Rattle.wasm_ast.specs.Widths.{load_width, store_type, store_width}
use Rattle.verified.specs.declared.call.TheConstants.{AGGREGATORS}
use Rattle.verified.specs.declared.imports.HostCall.TheVariants as call
use Rattle.verified.specs.Effects.{HostEffect}
use Rattle.verified.specs.Effects as host
use Rattle.verified.specs.Host.{Host, aggregator_value, with_contribution}
use Rattle.verified.specs.Operands.{number, with_number, pop}
use Rattle.semantics.specs.Configuration.{State, Effect, Gives, Traps, Misses, with_locals, with_globals}
use Rattle.semantics.specs.Memory.{read, write}
use Rattle.semantics.specs.Effects.{value, popped, numeric_effect, discard, select, pushed, variable_effect, load_effect, store_effect, memory_effect, effect, lifted, call_effect}
use Rattle.semantics.specs.Machine.{Machine, Running, Stuck, ControlEntry, Label, Frame, first, carry, landed, arrive, jump, back, leave, label_of, branch_unless_zero, take_branch, taking, gives_one, after_effect, enter}
use Rattle.interp.specs.inside.Fits.{IsFit, AreFit, StateFits, EntriesFit, MachineFits}

-- one that may be there
abbrev IsFitIfAny : Option Value → Type 0
IsFitIfAny None = Unit {0}
IsFitIfAny (Some v) = IsFit v

-- ---- lists

pub fit-append : (vs us : List Value) → AreFit vs → AreFit us → AreFit (vs ++ us)
fit-append [] us f g = g
fit-append (v ∷ vs) us f g = (f.0, fit-append vs us f.1 g)

fit-take : (n : ℕ) (vs : List Value) → AreFit vs → AreFit (take n vs)
fit-take zero vs f = tt
fit-take (suc n) [] f = tt
fit-take (suc n) (v ∷ vs) f = (f.0, fit-take n vs f.1)

fit-drop : (n : ℕ) (vs : List Value) → AreFit vs → AreFit (drop n vs)
fit-drop zero vs f = f
fit-drop (suc n) [] f = tt
fit-drop (suc n) (v ∷ vs) f = fit-drop n vs f.1

fit-reverse : (vs : List Value) → AreFit vs → AreFit (reverse vs)
fit-reverse [] f = tt
fit-reverse (v ∷ vs) f =
    subst (λ (l : List Value). AreFit l) (sym (reverse-append (v ∷ []) vs)) (fit-append (reverse vs) (v ∷ []) (fit-reverse vs f.1) (f.0, tt))

fit-set : (vs : List Value) (x : ℕ) (v : Value) → AreFit vs → IsFit v → AreFit (slice_set vs x v)
fit-set [] x v f g = tt
fit-set (w ∷ vs) zero v f g = (g, f.1)
fit-set (w ∷ vs) (suc x) v f g = (f.0, fit-set vs x v f.1 g)

fit-get : (vs : List Value) (x : ℕ) → AreFit vs → IsFitIfAny (slice_get vs x)
fit-get [] x f = tt
fit-get (v ∷ vs) zero f = f.0
fit-get (v ∷ vs) (suc x) f = fit-get vs x f.1

pub zeros_fit : (ts : List ValType) → AreFit (map zero_of ts)
zeros_fit [] = tt
zeros_fit (val_type.I32 ∷ ts) = (lit< tt, zeros_fit ts)
zeros_fit (val_type.I64 ∷ ts) = (tt, zeros_fit ts)

-- ---- entries

first_fits : (vs : List Value) → AreFit vs → IsFitIfAny (first vs)
first_fits [] f = tt
first_fits (v ∷ vs) f = f.0

landed_fits : (keeps : Bool) (top : Option Value) (vs : List Value) (is : Code) (ls : List ControlEntry) (st : State) → IsFitIfAny top → AreFit vs → EntriesFit ls → StateFits st → MachineFits (landed (carry keeps top vs) is ls st)
landed_fits false top vs is ls st t f g h = (f, (g, h))
landed_fits true None vs is ls st t f g h = tt
landed_fits true (Some v) vs is ls st t f g h = ((t, f), (g, h))

arrive_fits : (top : Option Value) (ls : List ControlEntry) (st : State) → IsFitIfAny top → EntriesFit ls → StateFits st → MachineFits (arrive top ls st)
arrive_fits top [] st t g h = tt
arrive_fits top (Label keeps vs a b ∷ ls) st t g h = landed_fits keeps top vs a ls st t g.0 g.1 h
arrive_fits top (Frame keeps xs vs a ∷ ls) st t g h = landed_fits keeps top vs a ls (with_locals st xs) t g.1.0 g.1.1 (g.0, h.1)

jump_fits : (l : ℕ) (top : Option Value) (ls : List ControlEntry) (st : State) → IsFitIfAny top → EntriesFit ls → StateFits st → MachineFits (jump l top ls st)
jump_fits zero top ls st t g h = arrive_fits top ls st t g h
jump_fits (suc l) top [] st t g h = tt
jump_fits (suc l) top (Label keeps vs a b ∷ ls) st t g h = jump_fits l top ls st t g.1 h
jump_fits (suc l) top (Frame keeps xs vs a ∷ ls) st t g h = tt

back_fits : (top : Option Value) (ls : List ControlEntry) (st : State) → IsFitIfAny top → EntriesFit ls → StateFits st → MachineFits (back top ls st)
back_fits top [] st t g h = tt
back_fits top (Label keeps vs a b ∷ ls) st t g h = back_fits top ls st t g.1 h
back_fits top (Frame keeps xs vs a ∷ ls) st t g h = arrive_fits top (Frame keeps xs vs a ∷ ls) st t g h

pub leave_fits : (vs : List Value) (ls : List ControlEntry) (st : State) → AreFit vs → EntriesFit ls → StateFits st → MachineFits (leave vs ls st)
leave_fits vs [] st f g h = tt
leave_fits vs (Label keeps us a b ∷ ls) st f g h = (fit-append vs us f g.0, (g.1, h))
leave_fits vs (Frame keeps xs us a ∷ ls) st f g h = (fit-append vs us f g.1.0, (g.1.1, (g.0, h.1)))

-- ---- operands that are taken off

module _ {E : Type 0} (P : E → Type 0) (missing : E) (none : P missing) where
  with_fits : (o : Option ℕ) (go : ℕ → E) → ((n : ℕ) → P (go n)) → P (with_number missing o go)
  with_fits None go h = none
  with_fits (Some n) go h = h n

  pop_fits : (t : ValType) (vs : List Value) (go : ℕ → List Value → E) → AreFit vs → ((n : ℕ) (us : List Value) → AreFit us → P (go n us)) → P (pop missing t vs go)
  pop_fits t [] go f h = none
  pop_fits t (v ∷ vs) go f h = with_fits (number t v) (λ n. go n vs) (λ n. h n vs f.1)

-- ---- effects

-- operands and state fit
abbrev pub EffectFits : Effect → Type 0
EffectFits (Gives vs st) = AreFit vs × StateFits st
EffectFits Traps = Unit {0}
EffectFits Misses = Unit {0}

-- they do except for the topmost operand
abbrev pub RestFits : Effect → Type 0
RestFits (Gives [] st) = StateFits st
RestFits (Gives (v ∷ vs) st) = AreFit vs × StateFits st
RestFits Traps = Unit {0}
RestFits Misses = Unit {0}

rest_popped : (t : ValType) (vs : List Value) (go : ℕ → List Value → Effect) → AreFit vs → ((n : ℕ) (us : List Value) → AreFit us → RestFits (go n us)) → RestFits (popped t vs go)
rest_popped = pop_fits RestFits Misses tt

popped_fits : (t : ValType) (vs : List Value) (go : ℕ → List Value → Effect) → AreFit vs → ((n : ℕ) (us : List Value) → AreFit us → EffectFits (go n us)) → EffectFits (popped t vs go)
popped_fits = pop_fits EffectFits Misses tt

divided_fits : (b : Bool) (v : Value) (vs : List Value) (st : State) → AreFit vs → StateFits st → RestFits (if b then Traps else Gives (v ∷ vs) st)
divided_fits true v vs st f h = tt
divided_fits false v vs st f h = (f, h)

module _ (st : State) (fits : StateFits st) where
  pub numeric_rest : (op : Numeric) (vs : List Value) → AreFit vs → RestFits (numeric_effect op vs st)
  numeric_rest (numeric.Eqz t) vs f = rest_popped t vs _ f (λ x us g. (g, fits))
  numeric_rest (numeric.Comparison t op) vs f = rest_popped t vs _ f (λ y us g. rest_popped t us _ g (λ x ws h. (h, fits)))
  numeric_rest (numeric.Unary t op) vs f = rest_popped t vs _ f (λ x us g. (g, fits))
  numeric_rest (numeric.Binary t op) vs f = rest_popped t vs _ f (λ y us g. rest_popped t us _ g (λ x ws h. (h, fits)))
  numeric_rest (numeric.Division t op) vs f = rest_popped t vs _ f (λ y us g. rest_popped t us _ g (λ x ws h. divided_fits (division_traps (bits_of t) op x y) (value t (division_value (bits_of t) op x y)) ws st h fits))
  numeric_rest (numeric.Conversion op) vs f = rest_popped (conversion_from op) vs _ f (λ x us g. (g, fits))

  pub discard_fits : (vs : List Value) → AreFit vs → EffectFits (discard vs st)
  discard_fits [] f = tt
  discard_fits (v ∷ vs) f = (f.1, fits)

  select_fits : (n : ℕ) (vs : List Value) → AreFit vs → EffectFits (select n vs st)
  select_fits n [] f = tt
  select_fits n (I32 b ∷ []) f = tt
  select_fits n (I64 b ∷ []) f = tt
  select_fits zero (I32 b ∷ I32 a ∷ vs) f = ((f.0, f.1.1), fits)
  select_fits (suc n) (I32 b ∷ I32 a ∷ vs) f = (f.1, fits)
  select_fits zero (I64 b ∷ I64 a ∷ vs) f = ((f.0, f.1.1), fits)
  select_fits (suc n) (I64 b ∷ I64 a ∷ vs) f = (f.1, fits)
  select_fits n (I32 b ∷ I64 a ∷ vs) f = tt
  select_fits n (I64 b ∷ I32 a ∷ vs) f = tt

  pub selected_fits : (vs : List Value) → AreFit vs → EffectFits (effect plain.Select vs st)
  selected_fits vs f = popped_fits val_type.I32 vs _ f (λ n us g. select_fits n us g)

  pushed_fits : (o : Option Value) (vs : List Value) → IsFitIfAny o → AreFit vs → EffectFits (pushed o vs st)
  pushed_fits None vs g f = tt
  pushed_fits (Some v) vs g f = ((g, f), fits)

  set_fits : (b : Bool) (vs : List Value) (s : State) → AreFit vs → StateFits s → EffectFits (if b then Gives vs s else Misses)
  set_fits true vs s f h = (f, h)
  set_fits false vs s f h = tt

  pub variable_fits : (op : Variable) (vs : List Value) → AreFit vs → EffectFits (variable_effect op vs st)
  variable_fits (variable.LocalGet x) vs f = pushed_fits (slice_get st.locals x) vs (fit-get st.locals x fits.0) f
  variable_fits (variable.LocalSet x) [] f = tt
  variable_fits (variable.LocalSet x) (v ∷ vs) f = set_fits (nat_lt x (length st.locals)) vs (with_locals st (slice_set st.locals x v)) f.1 (fit-set st.locals x v fits.0 f.0, fits.1)
  variable_fits (variable.LocalTee x) [] f = tt
  variable_fits (variable.LocalTee x) (v ∷ vs) f = set_fits (nat_lt x (length st.locals)) (v ∷ vs) (with_locals st (slice_set st.locals x v)) f (fit-set st.locals x v fits.0 f.0, fits.1)
  variable_fits (variable.GlobalGet x) vs f = pushed_fits (slice_get st.globals x) vs (fit-get st.globals x fits.1) f
  variable_fits (variable.GlobalSet x) [] f = tt
  variable_fits (variable.GlobalSet x) (v ∷ vs) f = set_fits (nat_lt x (length st.globals)) vs (with_globals st (slice_set st.globals x v)) f.1 (fits.0, fit-set st.globals x v fits.1 f.0)

  load_rest : (op : Load) (o : Option ℕ) (vs : List Value) → AreFit vs → RestFits (load_effect op o vs st)
  load_rest op None vs f = tt
  load_rest op (Some n) vs f = (f, fits)

  store_fits : (o : Option (List ℕ)) (vs : List Value) → AreFit vs → EffectFits (store_effect o vs st)
  store_fits None vs f = tt
  store_fits (Some bytes) vs f = (f, fits)

  pub loads_rest : (op : Load) (a : MemoryArgument) (vs : List Value) → AreFit vs → RestFits (memory_effect (memory.Load op a) vs st)
  loads_rest op a vs f = rest_popped val_type.I32 vs _ f (λ i us g. load_rest op (read (i + a.offset) (load_width op) st.memory) us g)

  pub stores_fit : (op : Store) (a : MemoryArgument) (vs : List Value) → AreFit vs → EffectFits (memory_effect (memory.Store op a) vs st)
  stores_fit op a vs f = popped_fits (store_type op) vs _ f (λ n us g. popped_fits val_type.I32 us _ g (λ i ws h. store_fits (write (i + a.offset) (store_width op) n st.memory) ws h))

  -- ---- calls of the host

  argument_fits : (t : ValType) (vs : List Value) (go : ℕ → List Value → HostEffect) → AreFit vs → ((n : ℕ) (us : List Value) → AreFit us → EffectFits (lifted st (go n us))) → EffectFits (lifted st (pop host.Misses t vs go))
  argument_fits = pop_fits (λ e. EffectFits (lifted st e)) host.Misses tt

  slot_fits : (b : Bool) (vs : List Value) (h : Host) → EffectFits (lifted st (host.Gives vs h)) → EffectFits (lifted st (if b then host.Gives vs h else host.Traps))
  slot_fits true vs h g = g
  slot_fits false vs h g = tt

  pub set_value_fits : (vs : List Value) → AreFit vs → EffectFits (call_effect call.SetValue vs st)
  set_value_fits vs f = argument_fits val_type.I64 vs _ f (λ n us g. (g, fits))

  pub send_fits : (vs : List Value) → AreFit vs → EffectFits (call_effect call.Send vs st)
  send_fits vs f = argument_fits val_type.I64 vs _ f (λ n us g. argument_fits val_type.I64 us _ g (λ k ws h. (h, fits)))

  pub aggregate_fits : (vs : List Value) → AreFit vs → EffectFits (call_effect call.Aggregate vs st)
  aggregate_fits vs f = argument_fits val_type.I64 vs _ f (λ n us g. argument_fits val_type.I32 us _ g (λ k ws h. slot_fits (nat_lt k AGGREGATORS) ws (with_contribution st.host k (cast_signed w64 n)) (h, fits)))

  pub aggregated_fits : (vs : List Value) → AreFit vs → EffectFits (call_effect call.Aggregated vs st)
  aggregated_fits vs f = argument_fits val_type.I32 vs _ f (λ k us g. slot_fits (nat_lt k AGGREGATORS) (host.signed (aggregator_value st.host k) ∷ us) st.host ((tt, g), fits))

-- ---- steps

pub after_fits : (e : Effect) (is : Code) (ls : List ControlEntry) (count : ℕ) → EffectFits e → EntriesFit ls → MachineFits (after_effect e is ls count)
after_fits (Gives vs st) is ls count f g = (f.0, (g, f.1))
after_fits Traps is ls count f g = tt
after_fits Misses is ls count f g = tt

pub taking_fits : (vs : List Value) (count : ℕ) (go : ℕ → List Value → Machine) → AreFit vs → ((n : ℕ) (us : List Value) → AreFit us → MachineFits (go n us)) → MachineFits (taking vs count go)
taking_fits vs count go f h = pop_fits MachineFits (Stuck count) tt val_type.I32 vs go f h

unless_fits : (n l : ℕ) (vs : List Value) (is : Code) (ls : List ControlEntry) (st : State) → AreFit vs → EntriesFit ls → StateFits st → MachineFits (branch_unless_zero n l vs is ls st)
unless_fits zero l vs is ls st f g h = (f, (g, h))
unless_fits (suc n) l vs is ls st f g h = jump_fits l (first vs) ls st (first_fits vs f) g h

pub branch_fits : (b : Branch) (vs : List Value) (is : Code) (ls : List ControlEntry) (st : State) → AreFit vs → EntriesFit ls → StateFits st → MachineFits (take_branch b vs is ls st)
branch_fits (branch.Br l) vs is ls st f g h = jump_fits l (first vs) ls st (first_fits vs f) g h
branch_fits (branch.BrIf l) vs is ls st f g h = taking_fits vs st.count _ f (λ n us i. unless_fits n l us is ls st i g h)
branch_fits (branch.BrTable labels other) vs is ls st f g h = taking_fits vs st.count _ f (λ n us i. jump_fits (label_of labels n other) (first us) ls st (first_fits us i) g h)
branch_fits branch.Return vs is ls st f g h = back_fits (first vs) ls st (first_fits vs f) g h

entered_fits : (b : Bool) (x : Machine) (count : ℕ) → MachineFits x → MachineFits (if b then x else Stuck count)
entered_fits true x count f = f
entered_fits false x count f = tt

pub enter_fits : (fn : Function) (o : Option FuncType) (vs : List Value) (is : Code) (ls : List ControlEntry) (st : State) → AreFit vs → EntriesFit ls → StateFits st → MachineFits (enter fn o vs is ls st)
enter_fits fn None vs is ls st f g h = tt
enter_fits fn (Some t) vs is ls st f g h =
    entered_fits (nat_le (length t.parameters) (length vs)) (Running [] fn.body (Frame (gives_one t.results) st.locals (drop (length t.parameters) vs) is ∷ ls) (with_locals st (reverse (take (length t.parameters) vs) ++ map zero_of fn.locals))) st.count
    (tt, ((h.0, (fit-drop (length t.parameters) vs f, g)), (fit-append (reverse (take (length t.parameters) vs)) (map zero_of fn.locals) (fit-reverse (take (length t.parameters) vs) (fit-take (length t.parameters) vs f)) (zeros_fit fn.locals), h.1)))
