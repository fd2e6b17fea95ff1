-- Where a step goes on, all that its parts ask is there.
use Rattle.std.proofs.Common.{◌≡◌, ℕ, zero, suc, ◌+◌, ◌≤◌, List, [], ◌∷◌, Bool, true, false, not, Option, Some, None, IsSome, length, slice_get, nat_lt, nat_le, if◌then◌else◌, refl, ◌∙◌, ap, sym, arith}
use Rattle.std.proofs.lemmas.Bool.{and_from, false≢true, leb-true, lt-ltb}
use Rattle.wasm_ast.specs.declared.types.ValType.{ValType}
use Rattle.wasm_ast.specs.declared.types.ValType.TheVariants as val_type
use Rattle.wasm_ast.specs.declared.types.Value.{Value}
use Rattle.wasm_ast.specs.declared.types.Value.TheVariants.{I32, I64}
use Rattle.wasm_ast.specs.declared.types.FuncType.{FuncType}
use Rattle.wasm_ast.specs.declared.numeric.Division.{Division}
use Rattle.wasm_ast.specs.declared.numeric.Numeric.{Numeric}
use Rattle.wasm_ast.specs.declared.numeric.Numeric.TheVariants as numeric
use Rattle.wasm_ast.specs.declared.plain.Load.{Load}
use Rattle.wasm_ast.specs.declared.plain.Memory.{Memory}
use Rattle.wasm_ast.specs.declared.plain.Memory.TheVariants as memory
use Rattle.wasm_ast.specs.declared.plain.Variable.{Variable}
use Rattle.wasm_ast.specs.declared.plain.Variable.TheVariants as variable
use Rattle.wasm_ast.specs.declared.plain.Plain.{Plain}
use Rattle.wasm_ast.specs.declared.plain.Plain.TheVariants as plain
use Rattle.wasm_ast.specs.declared.module.Function.{Function}
use Rattle.wasm_ast.specs.Code.{Code}
use Rattle.wasm_ast.specs.declared.plain.MemoryArgument.{MemoryArgument}
use Rattle.verified.specs.Memory.{number_of}
use Rattle.wasm_ast.specs.Numeric.{conversion_from}
use Rattle.semantics.specs.Operations.{division_traps}
use Rattle.wasm_ast.specs.NumericTypes.{numeric_takes}
use Rattle.wasm_ast.specs.Widths.{load_width, store_type, store_width}
use Rattle.verified.specs.declared.call.TheConstants.{AGGREGATORS}
use Rattle.verified.specs.declared.imports.HostCall.{HostCall}
use Rattle.verified.specs.declared.imports.HostCall.TheVariants as call
use Rattle.verified.specs.Effects.{HostEffect, host_effect}
use Rattle.verified.specs.Effects as host
use Rattle.verified.specs.Operands.{pop}
use Rattle.semantics.specs.Configuration.{State, Effect, Gives, Traps, Misses}
use Rattle.semantics.specs.Memory.{write, bytes_of_number}
use Rattle.semantics.specs.Effects.{popped, numeric_effect, select, pushed, variable_effect, load_effect, store_effect, effect, lifted}
use Rattle.semantics.specs.Machine.{Machine, Stuck, ControlEntry, Label, Frame, after_effect, jump, enter, taking}
use Rattle.interp.specs.inside.Cells.{call_takes, cell_call, cell_effect, cell_memory, cell_numeric, kept_effect, narrowed, seen, topped}
use Rattle.interp.specs.inside.Kept.{is_kept, kept_read, kept_write}
use Rattle.interp.specs.inside.Going.{is_going, has_labels, has_tops, of_top, of_next, divides, numeric_asks, variable_asks, reaches, memory_asks, plain_asks, call_asks}
use Rattle.semantics.proofs.Plains.{bytes_length}

-- ---- entries

pub jump_asks : (l : ℕ) (top : Option Value) (ls : List ControlEntry) (st : State) → is_going (jump l top ls st) ≡ true → has_labels l ls ≡ true
jump_asks zero top ls st g = refl
jump_asks (suc l) top [] st g = g
jump_asks (suc l) top (Label keeps vs t a ∷ ls) st g = jump_asks l top ls st g
jump_asks (suc l) top (Frame keeps xs vs a ∷ ls) st g = g

framed : (b : Bool) (x : Machine) (count : ℕ) → is_going (if b then x else Stuck count) ≡ true → b ≡ true
framed true x count g = refl
framed false x count g = g

pub enter_asks : (f : Function) (t : FuncType) (vs : List Value) (is : Code) (ls : List ControlEntry) (st : State) → is_going (enter f (Some t) vs is ls st) ≡ true → length t.parameters ≤ length vs
enter_asks f t vs is ls st g = leb-true (length t.parameters) (length vs) (framed (nat_le (length t.parameters) (length vs)) _ st.count g)

-- ---- operands

pub taking_asks : (vs : List Value) (count : ℕ) (go : ℕ → List Value → Machine) → is_going (taking (seen (val_type.I32 ∷ []) vs) count go) ≡ true → has_tops 1 vs ≡ true
taking_asks [] count go g = g
taking_asks (v ∷ vs) count go g = refl

pub one_there : (vs : List Value) → has_tops 1 vs ≡ true → 1 ≤ length vs
one_there [] g = absurd (false≢true g)
one_there (v ∷ vs) g = omega arith

-- operands and a state are given
abbrev pub IsGiven : Effect → Type 0
IsGiven (Gives vs st) = Unit {0}
IsGiven Traps = ⊥
IsGiven Misses = ⊥

pub effect_given : (e : Effect) (is : Code) (ls : List ControlEntry) (count : ℕ) → is_going (after_effect e is ls count) ≡ true → IsGiven e
effect_given (Gives vs st) is ls count g = tt
effect_given Traps is ls count g = absurd (false≢true g)
effect_given Misses is ls count g = absurd (false≢true g)

topped_given : (may : Value → Bool) (e : Effect) → IsGiven (topped may e) → IsGiven e
topped_given may (Gives vs st) h = tt
topped_given may Traps h = h
topped_given may Misses h = h

-- what is taken off the operands is there
module _ {E : Type 0} (G : E → Type 0) (missing : E) (none : G missing → ⊥) where
  tops : (t : ValType) (ts : List ValType) (n : ℕ) (vs : List Value) (go : ℕ → List Value → E) → G (pop missing t (seen (t ∷ ts) vs) go) → ((k : ℕ) (us : List Value) → G (go k (seen ts us)) → has_tops n us ≡ true) → has_tops (suc n) vs ≡ true
  tops t ts n [] go h f = absurd (none h)
  tops val_type.I32 ts n (v ∷ vs) go h f = f (narrowed val_type.I32 (number_of v)) vs h
  tops val_type.I64 ts n (v ∷ vs) go h f = f (number_of v) vs h

  top : (t : ValType) (ts : List ValType) (p : ℕ → Bool) (vs : List Value) (go : ℕ → List Value → E) → G (pop missing t (seen (t ∷ ts) vs) go) → ((n : ℕ) (us : List Value) → G (go n (seen ts us)) → p n ≡ true) → of_top t p vs ≡ true
  top t ts p [] go h f = refl
  top val_type.I32 ts p (v ∷ vs) go h f = f (narrowed val_type.I32 (number_of v)) vs h
  top val_type.I64 ts p (v ∷ vs) go h f = f (number_of v) vs h

  next : (t u : ValType) (ts : List ValType) (p : ℕ → Bool) (vs : List Value) (go : ℕ → List Value → E) → G (pop missing t (seen (t ∷ ts) vs) go) → ((n : ℕ) (us : List Value) → G (go n (seen ts us)) → of_top u p us ≡ true) → of_next u p vs ≡ true
  next t u ts p [] go h f = refl
  next val_type.I32 u ts p (v ∷ vs) go h f = f (narrowed val_type.I32 (number_of v)) vs h
  next val_type.I64 u ts p (v ∷ vs) go h f = f (number_of v) vs h

popped_tops : (t : ValType) (ts : List ValType) (n : ℕ) (vs : List Value) (go : ℕ → List Value → Effect) → IsGiven (popped t (seen (t ∷ ts) vs) go) → ((k : ℕ) (us : List Value) → IsGiven (go k (seen ts us)) → has_tops n us ≡ true) → has_tops (suc n) vs ≡ true
popped_tops = tops IsGiven Misses (λ h. h)

popped_top : (t : ValType) (ts : List ValType) (p : ℕ → Bool) (vs : List Value) (go : ℕ → List Value → Effect) → IsGiven (popped t (seen (t ∷ ts) vs) go) → ((n : ℕ) (us : List Value) → IsGiven (go n (seen ts us)) → p n ≡ true) → of_top t p vs ≡ true
popped_top = top IsGiven Misses (λ h. h)

popped_next : (t u : ValType) (ts : List ValType) (p : ℕ → Bool) (vs : List Value) (go : ℕ → List Value → Effect) → IsGiven (popped t (seen (t ∷ ts) vs) go) → ((n : ℕ) (us : List Value) → IsGiven (go n (seen ts us)) → of_top u p us ≡ true) → of_next u p vs ≡ true
popped_next = next IsGiven Misses (λ h. h)

-- ---- numbers

untrapped : (b : Bool) (vs : List Value) (st : State) → IsGiven (if b then Traps else Gives vs st) → not b ≡ true
untrapped true vs st h = absurd h
untrapped false vs st h = refl

divided : (t : ValType) (op : Division) (vs : List Value) (st : State) → IsGiven (numeric_effect (numeric.Division t op) (seen (t ∷ t ∷ []) vs) st) → divides t op vs ≡ true
divided t op [] st h = refl
divided val_type.I32 op (v ∷ vs) st h = let y = narrowed val_type.I32 (number_of v) in popped_top val_type.I32 [] (λ x. not (division_traps 32 op x y)) vs _ h (λ x ws g. untrapped (division_traps 32 op x y) _ st g)
divided val_type.I64 op (v ∷ vs) st h = let y = number_of v in popped_top val_type.I64 [] (λ x. not (division_traps 64 op x y)) vs _ h (λ x ws g. untrapped (division_traps 64 op x y) _ st g)

numbers_asked : (op : Numeric) (vs : List Value) (st : State) → IsGiven (numeric_effect op (seen (numeric_takes op) vs) st) → numeric_asks op vs ≡ true
numbers_asked (numeric.Eqz t) vs st h = popped_tops t [] 0 vs _ h (λ x us g. refl)
numbers_asked (numeric.Comparison t op) vs st h = popped_tops t (t ∷ []) 1 vs _ h (λ y us g. popped_tops t [] 0 us _ g (λ x ws i. refl))
numbers_asked (numeric.Unary t op) vs st h = popped_tops t [] 0 vs _ h (λ x us g. refl)
numbers_asked (numeric.Binary t op) vs st h = popped_tops t (t ∷ []) 1 vs _ h (λ y us g. popped_tops t [] 0 us _ g (λ x ws i. refl))
numbers_asked (numeric.Division t op) vs st h =
    and_from (has_tops 2 vs) (divides t op vs) (popped_tops t (t ∷ []) 1 vs _ h (λ y us g. popped_tops t [] 0 us _ g (λ x ws i. refl))) (divided t op vs st h)
numbers_asked (numeric.Conversion op) vs st h = popped_tops (conversion_from op) [] 0 vs _ h (λ x us g. refl)

numeric_asked : (may : Value → Bool) (op : Numeric) (vs : List Value) (st : State) → IsGiven (cell_numeric may op vs st) → numeric_asks op vs ≡ true
numeric_asked may op vs st h = numbers_asked op vs st (topped_given may (numeric_effect op (seen (numeric_takes op) vs) st) h)

select_asked : (vs : List Value) (st : State) → IsGiven (popped val_type.I32 (seen (val_type.I32 ∷ []) vs) (λ n us. select n us st)) → has_tops 3 vs ≡ true
select_asked [] st h = absurd h
select_asked (v ∷ []) st h = absurd h
select_asked (v ∷ I32 b ∷ []) st h = absurd h
select_asked (v ∷ I64 b ∷ []) st h = absurd h
select_asked (v ∷ u ∷ w ∷ vs) st h = refl

-- ---- variables

pushed_asked : (o : Option Value) (vs : List Value) (st : State) → IsGiven (pushed o vs st) → IsSome o
pushed_asked None vs st h = absurd h
pushed_asked (Some v) vs st h = refl

set_asked : (b : Bool) (vs : List Value) (st : State) → IsGiven (if b then Gives vs st else Misses) → b ≡ true
set_asked true vs st h = refl
set_asked false vs st h = absurd h

variable_asked : (op : Variable) (vs : List Value) (st : State) → IsGiven (variable_effect op vs st) → variable_asks op vs st.locals st.globals ≡ true
variable_asked (variable.LocalGet x) vs st h = pushed_asked (slice_get st.locals x) vs st h
variable_asked (variable.LocalSet x) [] st h = absurd h
variable_asked (variable.LocalSet x) (v ∷ vs) st h = and_from (nat_lt 0 (length (v ∷ vs))) (nat_lt x (length st.locals)) (lt-ltb 0 (length (v ∷ vs)) (omega arith)) (set_asked (nat_lt x (length st.locals)) _ _ h)
variable_asked (variable.LocalTee x) [] st h = absurd h
variable_asked (variable.LocalTee x) (v ∷ vs) st h = and_from (nat_lt 0 (length (v ∷ vs))) (nat_lt x (length st.locals)) (lt-ltb 0 (length (v ∷ vs)) (omega arith)) (set_asked (nat_lt x (length st.locals)) _ _ h)
variable_asked (variable.GlobalGet x) vs st h = pushed_asked (slice_get st.globals x) vs st h
variable_asked (variable.GlobalSet x) [] st h = absurd h
variable_asked (variable.GlobalSet x) (v ∷ vs) st h = and_from (nat_lt 0 (length (v ∷ vs))) (nat_lt x (length st.globals)) (lt-ltb 0 (length (v ∷ vs)) (omega arith)) (set_asked (nat_lt x (length st.globals)) _ _ h)

-- ---- the memory

pub loaded_asked : (op : Load) (n : ℕ) (b : Bool) (vs : List Value) (st : State) → IsGiven (load_effect op (if b then Some n else None) vs st) → b ≡ true
loaded_asked op n true vs st h = refl
loaded_asked op n false vs st h = absurd h

stored_asked : (bytes : List ℕ) (b : Bool) (vs : List Value) (st : State) → IsGiven (store_effect (if b then Some bytes else None) vs st) → b ≡ true
stored_asked bytes true vs st h = refl
stored_asked bytes false vs st h = absurd h

pub written_asked : (place width n : ℕ) (bytes : List ℕ) (vs : List Value) (st : State) → IsGiven (store_effect (write place width n bytes) vs st) → nat_le (place + width) (length bytes) ≡ true
written_asked place width n bytes vs st h =
    ap (λ (k : ℕ). nat_le (place + k) (length bytes)) (sym (bytes_length 0 width n))
    ∙ stored_asked _ (nat_le (place + length (bytes_of_number width n)) (length bytes)) vs st h

kept_asked : (op : Load) (place width : ℕ) (vs : List Value) (st : State) → IsGiven (load_effect op (kept_read place width st.memory) vs st) → is_kept place width st.memory ≡ true
kept_asked op place width vs st h = loaded_asked op _ (is_kept place width st.memory) vs st h

over_asked : (place width n : ℕ) (vs : List Value) (st : State) → IsGiven (store_effect (kept_write place width n st.memory) vs st) → is_kept place width st.memory ≡ true
over_asked place width n vs st h =
    ap (λ (k : ℕ). is_kept place k st.memory) (sym (bytes_length 0 width n)) ∙ stored_asked _ (is_kept place (length (bytes_of_number width n)) st.memory) vs st h

loads_asked : (op : Load) (a : MemoryArgument) (vs : List Value) (st : State) → IsGiven (kept_effect (memory.Load op a) (seen (val_type.I32 ∷ []) vs) st) → memory_asks (memory.Load op a) vs st.memory ≡ true
loads_asked op a vs st h =
    and_from (has_tops 1 vs) (of_top val_type.I32 (reaches a.offset (load_width op) st.memory) vs)
    (popped_tops val_type.I32 [] 0 vs _ h (λ i us g. refl))
    (popped_top val_type.I32 [] (reaches a.offset (load_width op) st.memory) vs _ h (λ i us g. kept_asked op (i + a.offset) (load_width op) us st g))

memory_asked : (may : Value → Bool) (op : Memory) (vs : List Value) (st : State) → IsGiven (cell_memory may op vs st) → memory_asks op vs st.memory ≡ true
memory_asked may (memory.Load op a) vs st h = loads_asked op a vs st (topped_given may (kept_effect (memory.Load op a) (seen (val_type.I32 ∷ []) vs) st) h)
memory_asked may (memory.Store op a) vs st h =
    and_from (has_tops 2 vs) (of_next val_type.I32 (reaches a.offset (store_width op) st.memory) vs)
    (popped_tops (store_type op) (val_type.I32 ∷ []) 1 vs _ h (λ n us g. popped_tops val_type.I32 [] 0 us _ g (λ i ws j. refl)))
    (popped_next (store_type op) val_type.I32 (val_type.I32 ∷ []) (reaches a.offset (store_width op) st.memory) vs _ h (λ n us g. popped_top val_type.I32 [] (reaches a.offset (store_width op) st.memory) us _ g (λ i ws j. over_asked (i + a.offset) (store_width op) n ws st j)))
memory_asked may memory.Size vs st h = refl
memory_asked may memory.Grow vs st h = absurd h

-- ---- all of them

discard_asked : (vs : List Value) (st : State) → IsGiven (effect plain.Drop vs st) → nat_lt 0 (length vs) ≡ true
discard_asked [] st h = absurd h
discard_asked (v ∷ vs) st h = lt-ltb 0 (length (v ∷ vs)) (omega arith)

plain_given : (may : Value → Bool) (p : Plain) (vs : List Value) (st : State) → IsGiven (cell_effect may p vs st) → plain_asks p vs st.locals st.globals st.memory ≡ true
plain_given may plain.Nop vs st h = refl
plain_given may plain.Drop vs st h = discard_asked vs st h
plain_given may plain.Select vs st h = select_asked vs st h
plain_given may (plain.Const v) vs st h = refl
plain_given may (plain.Numeric op) vs st h = numeric_asked may op vs st h
plain_given may (plain.Variable op) vs st h = variable_asked op vs st h
plain_given may (plain.Memory op) vs st h = memory_asked may op vs st h

pub plain_asked : (may : Value → Bool) (p : Plain) (vs : List Value) (is : Code) (ls : List ControlEntry) (st : State) → is_going (after_effect (cell_effect may p vs st) is ls st.count) ≡ true → plain_asks p vs st.locals st.globals st.memory ≡ true
plain_asked may p vs is ls st g = plain_given may p vs st (effect_given (cell_effect may p vs st) is ls st.count g)

-- ---- calls of the host

abbrev IsAnswered : HostEffect → Type 0
IsAnswered (host.Gives vs h) = Unit {0}
IsAnswered host.Traps = ⊥
IsAnswered host.Misses = ⊥

lifted_given : (e : HostEffect) (st : State) → IsGiven (lifted st e) → IsAnswered e
lifted_given (host.Gives vs h) st g = tt
lifted_given host.Traps st g = g
lifted_given host.Misses st g = g

argument_tops : (t : ValType) (ts : List ValType) (n : ℕ) (vs : List Value) (go : ℕ → List Value → HostEffect) → IsAnswered (pop host.Misses t (seen (t ∷ ts) vs) go) → ((k : ℕ) (us : List Value) → IsAnswered (go k (seen ts us)) → has_tops n us ≡ true) → has_tops (suc n) vs ≡ true
argument_tops = tops IsAnswered host.Misses (λ h. h)

slot_asked : (b : Bool) (e : HostEffect) → IsAnswered (if b then e else host.Traps) → b ≡ true
slot_asked true e h = refl
slot_asked false e h = absurd h

call_given : (may : Value → Bool) (c : HostCall) (vs : List Value) (st : State) → IsGiven (cell_call may c vs st) → call_asks c vs ≡ true
call_given may call.SetValue vs st h =
    argument_tops val_type.I64 [] 0 vs _ (lifted_given (host_effect call.SetValue (seen (call_takes call.SetValue) vs) st.host) st h) (λ n us i. refl)
call_given may call.Send vs st h =
    argument_tops val_type.I64 (val_type.I64 ∷ []) 1 vs _ (lifted_given (host_effect call.Send (seen (call_takes call.Send) vs) st.host) st h) (λ n us i. argument_tops val_type.I64 [] 0 us _ i (λ k ws j. refl))
call_given may call.Aggregate vs st h =
    let g = lifted_given (host_effect call.Aggregate (seen (call_takes call.Aggregate) vs) st.host) st h in
    and_from (has_tops 2 vs) (of_next val_type.I32 (λ k. nat_lt k AGGREGATORS) vs)
    (argument_tops val_type.I64 (val_type.I32 ∷ []) 1 vs _ g (λ n us i. argument_tops val_type.I32 [] 0 us _ i (λ k ws j. refl)))
    (next IsAnswered host.Misses (λ x. x) val_type.I64 val_type.I32 (val_type.I32 ∷ []) (λ k. nat_lt k AGGREGATORS) vs _ g (λ n us i. top IsAnswered host.Misses (λ x. x) val_type.I32 [] (λ k. nat_lt k AGGREGATORS) us _ i (λ k ws j. slot_asked (nat_lt k AGGREGATORS) _ j)))
call_given may call.Aggregated vs st h =
    let g = lifted_given (host_effect call.Aggregated (seen (call_takes call.Aggregated) vs) st.host) st h in
    and_from (has_tops 1 vs) (of_top val_type.I32 (λ k. nat_lt k AGGREGATORS) vs)
    (argument_tops val_type.I32 [] 0 vs _ g (λ k us i. refl))
    (top IsAnswered host.Misses (λ x. x) val_type.I32 [] (λ k. nat_lt k AGGREGATORS) vs _ g (λ k us i. slot_asked (nat_lt k AGGREGATORS) _ i))
call_given may call.VertexId vs st h = refl
call_given may call.Superstep vs st h = refl
call_given may call.NumVertices vs st h = refl
call_given may call.GetValue vs st h = refl
call_given may call.NextMessage vs st h = refl
call_given may call.MessageValue vs st h = refl
call_given may call.NextEdge vs st h = refl
call_given may call.EdgeTarget vs st h = refl
call_given may call.EdgeValue vs st h = refl
call_given may call.VoteToHalt vs st h = refl

pub call_asked : (may : Value → Bool) (c : HostCall) (vs : List Value) (is : Code) (ls : List ControlEntry) (st : State) → is_going (after_effect (cell_call may c vs st) is ls st.count) ≡ true → call_asks c vs ≡ true
call_asked may c vs is ls st g = call_given may c vs st (effect_given (cell_call may c vs st) is ls st.count g)
