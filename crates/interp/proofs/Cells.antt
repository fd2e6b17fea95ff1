-- The machine over cells does what the machine over values does, as cells, where values fit; and they still do after a step
-- whose result is in its width.
use Rattle.std.proofs.Common.{◌≡◌, ℕ, zero, suc, ◌+◌, ◌/◌, List, [], ◌∷◌, ◌++◌, Bool, true, false, Option, Some, None, option_map, map, length, take, drop, reverse, slice_get, nat_lt, nat_le, ◌<◌, ◌^◌, if◌then◌else◌, refl, sym, ap, ◌∙◌, subst}
use Rattle.std.specs.Prelude.{slice_set}
use Rattle.std.specs.List.{take-map, drop-map}
use Rattle.std.proofs.lemmas.Bool.{false≢true, leb-true, ltb-true}
use native.Mathlib.Nat.{mod-eq_of_lt}
use Rattle.std.proofs.lemmas.List.{map-append, length-map, reverse-append}
use Rattle.std.proofs.lemmas.Option.{slice_get-map}
use Rattle.wasm_ast.specs.declared.types.ValType.{ValType}
use Rattle.wasm_ast.specs.declared.types.ValType.TheVariants as val_type
use Rattle.wasm_ast.specs.declared.types.Value.{Value}
use Rattle.wasm_ast.specs.declared.types.Value.TheVariants.{I32, I64}
use Rattle.wasm_ast.specs.declared.types.FuncType.{FuncType}
use Rattle.wasm_ast.specs.declared.numeric.Numeric.{Numeric}
use Rattle.wasm_ast.specs.declared.numeric.Numeric.TheVariants as numeric
use Rattle.wasm_ast.specs.declared.plain.Load.{Load}
use Rattle.wasm_ast.specs.declared.plain.MemoryArgument.{MemoryArgument}
use Rattle.wasm_ast.specs.declared.plain.Store.{Store}
use Rattle.wasm_ast.specs.declared.plain.Memory.TheVariants as memory
use Rattle.wasm_ast.specs.declared.plain.Variable.{Variable}
use Rattle.wasm_ast.specs.declared.plain.Variable.TheVariants as variable
use Rattle.wasm_ast.specs.declared.plain.Plain.{Plain}
use Rattle.wasm_ast.specs.declared.plain.Plain.TheVariants as plain
use Rattle.wasm_ast.specs.declared.plain.Branch.{Branch}
use Rattle.wasm_ast.specs.declared.plain.Branch.TheVariants as branch
use Rattle.wasm_ast.specs.declared.module.Function.{Function}
use Rattle.wasm_ast.specs.declared.module.Module.{Module}
use Rattle.wasm_ast.specs.Code.{Code}
use Rattle.wasm_ast.specs.Code as code
use Rattle.wasm_ast.specs.Numeric.{bits_of, conversion_from}
use Rattle.semantics.specs.Operations.{division_traps, division_value}
use Rattle.wasm_ast.specs.Values.{zero_of}
use Rattle.wasm_ast.specs.Widths.{load_width, store_type, store_width}
use Rattle.verified.specs.declared.call.TheConstants.{AGGREGATORS}
use Rattle.verified.specs.declared.imports.HostCall.{HostCall}
use Rattle.verified.specs.declared.imports.HostCall.TheVariants as call
use Rattle.verified.specs.Effects.{HostEffect}
use Rattle.verified.specs.Effects as host
use Rattle.verified.specs.Host.{Host, aggregator_value}
use Rattle.verified.specs.Operands.{pop}
use Rattle.verified.specs.Memory.{page}
use Rattle.semantics.specs.Configuration.{State, Effect, Gives, Traps, Misses, with_locals, with_globals, tick}
use Rattle.semantics.specs.Memory.{read, write}
use Rattle.semantics.specs.Effects.{value, popped, numeric_effect, select, pushed, local_set, global_set, variable_effect, load_effect, store_effect, memory_effect, effect, lifted, call_effect}
use Rattle.semantics.specs.Machine as machine
use Rattle.semantics.specs.Machine.{Machine, Running, Stuck, ControlEntry, Label, Frame, Callee, defined, functions_of, first, carry, landed, arrive, jump, back, leave, label_of, branch_unless_zero, take_branch, taking, gives_one, after_effect, enter, take_call, next_units, take_next, advance}
use Rattle.interp.specs.inside.Going.{is_going}
use Rattle.interp.specs.inside.Cells.{cell_of, cells_place, cells_state, cells_entry, cells, in_width, narrowed, of_any_width, seen, topped, zero_cells, cell_numeric, cell_memory, cell_effect, cell_call, cell_branch, celled, cell_take_call, cell_next, cell_advance}
use Rattle.interp.specs.inside.Fits.{AreFit, EntriesFit, MachineFits, StateFits}
use Rattle.interp.specs.inside.Kept.{kept_read, kept_write, masked}
use Rattle.semantics.specs.inside.Touched.{AreMarked, MemoryTouches, PlainTouches, Touches}
use Rattle.interp.specs.inside.Place.{Place, running}
use Rattle.interp.proofs.Fits.{EffectFits, RestFits, after_fits, aggregate_fits, aggregated_fits, branch_fits, discard_fits, enter_fits, leave_fits, loads_rest, numeric_rest, selected_fits, send_fits, set_value_fits, stores_fit, taking_fits, variable_fits}
use Rattle.interp.proofs.Asking.{IsGiven, effect_given, loaded_asked, written_asked}
use Rattle.interp.proofs.Kept.{length-masked, read_masked, write_masked}

abbrev cells_of : List Value → List Value
cells_of vs = map cell_of vs

abbrev cells_entries : List ControlEntry → List ControlEntry
cells_entries ls = map cells_entry ls

-- ---- operands that are taken off

narrowed_fit : (n : ℕ) → n < 2 ^ 32 → narrowed val_type.I32 n ≡ n
narrowed_fit n h = mod-eq_of_lt h

module _ {E R : Type 0} (G : E → Type 0) (missing : E) (none : G missing → ⊥) (into out : E → R) where
  pop_one : (t : ValType) (ts : List ValType) (v : Value) (vs : List Value) (go cell_go : ℕ → List Value → E) → AreFit (v ∷ vs) → G (pop missing t (v ∷ vs) go) → ((n : ℕ) → G (go n vs) → into (cell_go n (seen ts (cells_of vs))) ≡ out (go n vs)) → into (pop missing t (seen (t ∷ ts) (cells_of (v ∷ vs))) cell_go) ≡ out (pop missing t (v ∷ vs) go)
  pop_one val_type.I32 ts (I32 n) vs go cell_go i h f = ap (λ (k : ℕ). into (cell_go k (seen ts (cells_of vs)))) (narrowed_fit n i.0) ∙ f n h
  pop_one val_type.I32 ts (I64 n) vs go cell_go i h f = absurd (none h)
  pop_one val_type.I64 ts (I32 n) vs go cell_go i h f = absurd (none h)
  pop_one val_type.I64 ts (I64 n) vs go cell_go i h f = f n h

  pop_follows : (t : ValType) (ts : List ValType) (vs : List Value) (go cell_go : ℕ → List Value → E) → AreFit vs → G (pop missing t vs go) → ((n : ℕ) (us : List Value) → AreFit us → G (go n us) → into (cell_go n (seen ts (cells_of us))) ≡ out (go n us)) → into (pop missing t (seen (t ∷ ts) (cells_of vs)) cell_go) ≡ out (pop missing t vs go)
  pop_follows t ts [] go cell_go i h f = absurd (none h)
  pop_follows t ts (v ∷ vs) go cell_go i h f = pop_one t ts v vs go cell_go i h (λ n g. f n vs i.1 g)

pub zeros_follow : (ts : List ValType) → zero_cells ts ≡ cells_of (map zero_of ts)
zeros_follow [] = refl
zeros_follow (val_type.I32 ∷ ts) = ap (λ (l : List Value). I64 0 ∷ l) (zeros_follow ts)
zeros_follow (val_type.I64 ∷ ts) = ap (λ (l : List Value). I64 0 ∷ l) (zeros_follow ts)

-- of the memory these bytes are kept
module _ (ms : List Bool) where
  -- ---- entries: no value is looked at

  first_follows : (vs : List Value) → first (cells_of vs) ≡ option_map cell_of (first vs)
  first_follows [] = refl
  first_follows (v ∷ vs) = refl

  landed_follows : (keeps : Bool) (top : Option Value) (vs : List Value) (is : Code) (ls : List ControlEntry) (st : State) → landed (carry keeps (option_map cell_of top) (cells_of vs)) is (cells_entries ls) (cells_state ms st) ≡ cells ms (landed (carry keeps top vs) is ls st)
  landed_follows false top vs is ls st = refl
  landed_follows true None vs is ls st = refl
  landed_follows true (Some v) vs is ls st = refl

  pub arrive_follows : (top : Option Value) (ls : List ControlEntry) (st : State) → arrive (option_map cell_of top) (cells_entries ls) (cells_state ms st) ≡ cells ms (arrive top ls st)
  arrive_follows top [] st = refl
  arrive_follows top (Label keeps vs t a ∷ ls) st = landed_follows keeps top vs t ls st
  arrive_follows top (Frame keeps xs vs a ∷ ls) st = landed_follows keeps top vs a ls (with_locals st xs)

  pub jump_follows : (l : ℕ) (top : Option Value) (ls : List ControlEntry) (st : State) → jump l (option_map cell_of top) (cells_entries ls) (cells_state ms st) ≡ cells ms (jump l top ls st)
  jump_follows zero top ls st = arrive_follows top ls st
  jump_follows (suc l) top [] st = refl
  jump_follows (suc l) top (Label keeps vs t a ∷ ls) st = jump_follows l top ls st
  jump_follows (suc l) top (Frame keeps xs vs a ∷ ls) st = refl

  pub back_follows : (top : Option Value) (ls : List ControlEntry) (st : State) → back (option_map cell_of top) (cells_entries ls) (cells_state ms st) ≡ cells ms (back top ls st)
  back_follows top [] st = refl
  back_follows top (Label keeps vs t a ∷ ls) st = back_follows top ls st
  back_follows top (Frame keeps xs vs a ∷ ls) st = arrive_follows top (Frame keeps xs vs a ∷ ls) st

  pub leave_follows : (vs : List Value) (ls : List ControlEntry) (st : State) → leave (cells_of vs) (cells_entries ls) (cells_state ms st) ≡ cells ms (leave vs ls st)
  leave_follows vs [] st = refl
  leave_follows vs (Label keeps us t a ∷ ls) st = ap (λ (l : List Value). Running l a (cells_entries ls) (cells_state ms st)) (sym (map-append cell_of vs us))
  leave_follows vs (Frame keeps xs us a ∷ ls) st = ap (λ (l : List Value). Running l a (cells_entries ls) (cells_state ms (with_locals st xs))) (sym (map-append cell_of vs us))

  -- ---- effects

  abbrev cells_effect : Effect → Effect
  cells_effect (Gives vs st) = Gives (cells_of vs) (cells_state ms st)
  cells_effect Traps = Traps
  cells_effect Misses = Misses

  -- the same where there may be such a result
  abbrev cells_topped : (Value → Bool) → Effect → Effect
  cells_topped may (Gives [] st) = Gives [] (cells_state ms st)
  cells_topped may (Gives (v ∷ vs) st) = if may v then Gives (cell_of v ∷ cells_of vs) (cells_state ms st) else Misses
  cells_topped may Traps = Traps
  cells_topped may Misses = Misses

  popped_follows : (t : ValType) (ts : List ValType) (vs : List Value) (go cell_go : ℕ → List Value → Effect) → AreFit vs → IsGiven (popped t vs go) → ((n : ℕ) (us : List Value) → AreFit us → IsGiven (go n us) → cell_go n (seen ts (cells_of us)) ≡ cells_effect (go n us)) → popped t (seen (t ∷ ts) (cells_of vs)) cell_go ≡ cells_effect (popped t vs go)
  popped_follows = pop_follows IsGiven Misses (λ h. h) (λ e. e) cells_effect

  module _ (may : Value → Bool) where
    topped_follows : (t : ValType) (ts : List ValType) (vs : List Value) (go cell_go : ℕ → List Value → Effect) → AreFit vs → IsGiven (popped t vs go) → ((n : ℕ) (us : List Value) → AreFit us → IsGiven (go n us) → topped may (cell_go n (seen ts (cells_of us))) ≡ cells_topped may (go n us)) → topped may (popped t (seen (t ∷ ts) (cells_of vs)) cell_go) ≡ cells_topped may (popped t vs go)
    topped_follows = pop_follows IsGiven Misses (λ h. h) (topped may) (cells_topped may)

    divided_follows : (b : Bool) (v : Value) (vs : List Value) (st : State) → topped may (if b then Traps else Gives (v ∷ cells_of vs) (cells_state ms st)) ≡ cells_topped may (if b then Traps else Gives (v ∷ vs) st)
    divided_follows true v vs st = refl
    divided_follows false v vs st = refl

    numeric_follows : (op : Numeric) (vs : List Value) (st : State) → AreFit vs → IsGiven (numeric_effect op vs st) → cell_numeric may op (cells_of vs) (cells_state ms st) ≡ cells_topped may (numeric_effect op vs st)
    numeric_follows (numeric.Eqz t) vs st f h = topped_follows t [] vs _ _ f h (λ x us i g. refl)
    numeric_follows (numeric.Comparison t op) vs st f h = topped_follows t (t ∷ []) vs _ _ f h (λ y us i g. topped_follows t [] us _ _ i g (λ x ws j k. refl))
    numeric_follows (numeric.Unary t op) vs st f h = topped_follows t [] vs _ _ f h (λ x us i g. refl)
    numeric_follows (numeric.Binary t op) vs st f h = topped_follows t (t ∷ []) vs _ _ f h (λ y us i g. topped_follows t [] us _ _ i g (λ x ws j k. refl))
    numeric_follows (numeric.Division t op) vs st f h =
        topped_follows t (t ∷ []) vs _ _ f h (λ y us i g. topped_follows t [] us _ _ i g (λ x ws j k. divided_follows (division_traps (bits_of t) op x y) (value t (division_value (bits_of t) op x y)) ws st))
    numeric_follows (numeric.Conversion op) vs st f h = topped_follows (conversion_from op) [] vs _ _ f h (λ x us i g. refl)

    load_follows : (op : Load) (o : Option ℕ) (vs : List Value) (st : State) → topped may (load_effect op o (cells_of vs) (cells_state ms st)) ≡ cells_topped may (load_effect op o vs st)
    load_follows op None vs st = refl
    load_follows op (Some n) vs st = refl

    loads_follow : (op : Load) (a : MemoryArgument) (vs : List Value) (st : State) → AreFit vs → MemoryTouches (AreMarked ms) (memory.Load op a) vs → IsGiven (memory_effect (memory.Load op a) vs st) → cell_memory may (memory.Load op a) (cells_of vs) (cells_state ms st) ≡ cells_topped may (memory_effect (memory.Load op a) vs st)
    loads_follow op a [] st f t h = absurd h
    loads_follow op a (I64 n ∷ vs) st f t h = absurd h
    loads_follow op a (I32 n ∷ vs) st f t h =
        let there = loaded_asked op _ (nat_le (n + a.offset + load_width op) (length st.memory)) vs st h in
        ap (λ (k : ℕ). topped may (load_effect op (kept_read (k + a.offset) (load_width op) (masked ms st.memory)) (cells_of vs) (cells_state ms st))) (narrowed_fit n f.0)
        ∙ ap (λ (o : Option ℕ). topped may (load_effect op o (cells_of vs) (cells_state ms st))) (read_masked ms (n + a.offset) (load_width op) st.memory t (leb-true (n + a.offset + load_width op) (length st.memory) there))
        ∙ load_follows op (read (n + a.offset) (load_width op) st.memory) vs st

  size_follows : (may : Value → Bool) (vs : List Value) (st : State) → cell_memory may memory.Size (cells_of vs) (cells_state ms st) ≡ cells_topped may (memory_effect memory.Size vs st)
  size_follows may vs st = ap (λ (n : ℕ). topped may (Gives (I32 (n / page) ∷ cells_of vs) (cells_state ms st))) (length-masked ms st.memory)

  select_follows : (n : ℕ) (vs : List Value) (st : State) → IsGiven (select n vs st) → select n (cells_of vs) (cells_state ms st) ≡ cells_effect (select n vs st)
  select_follows n [] st h = absurd h
  select_follows n (I32 b ∷ []) st h = absurd h
  select_follows n (I64 b ∷ []) st h = absurd h
  select_follows zero (I32 b ∷ I32 a ∷ vs) st h = refl
  select_follows (suc n) (I32 b ∷ I32 a ∷ vs) st h = refl
  select_follows zero (I64 b ∷ I64 a ∷ vs) st h = refl
  select_follows (suc n) (I64 b ∷ I64 a ∷ vs) st h = refl
  select_follows n (I32 b ∷ I64 a ∷ vs) st h = absurd h
  select_follows n (I64 b ∷ I32 a ∷ vs) st h = absurd h

  pushed_follows : (o : Option Value) (vs : List Value) (st : State) → pushed (option_map cell_of o) (cells_of vs) (cells_state ms st) ≡ cells_effect (pushed o vs st)
  pushed_follows None vs st = refl
  pushed_follows (Some v) vs st = refl

  got_follows : (xs : List Value) (x : ℕ) (vs : List Value) (st : State) → pushed (slice_get (cells_of xs) x) (cells_of vs) (cells_state ms st) ≡ cells_effect (pushed (slice_get xs x) vs st)
  got_follows xs x vs st = ap (λ (o : Option Value). pushed o (cells_of vs) (cells_state ms st)) (slice_get-map cell_of xs x) ∙ pushed_follows (slice_get xs x) vs st

  set_follows : (xs : List Value) (x : ℕ) (v : Value) → slice_set (cells_of xs) x (cell_of v) ≡ cells_of (slice_set xs x v)
  set_follows [] x v = refl
  set_follows (y ∷ xs) zero v = refl
  set_follows (y ∷ xs) (suc x) v = ap (λ (l : List Value). cell_of y ∷ l) (set_follows xs x v)

  given_follows : (b : Bool) (vs : List Value) (st : State) → (if b then Gives (cells_of vs) (cells_state ms st) else Misses) ≡ cells_effect (if b then Gives vs st else Misses)
  given_follows true vs st = refl
  given_follows false vs st = refl

  local_follows : (x : ℕ) (v : Value) (vs : List Value) (st : State) → local_set x (cell_of v) (cells_of vs) (cells_state ms st) ≡ cells_effect (local_set x v vs st)
  local_follows x v vs st =
      ap (λ (n : ℕ). if nat_lt x n then Gives (cells_of vs) (with_locals (cells_state ms st) (slice_set (cells_of st.locals) x (cell_of v))) else Misses) (length-map st.locals cell_of)
      ∙ ap (λ (l : List Value). if nat_lt x (length st.locals) then Gives (cells_of vs) (with_locals (cells_state ms st) l) else Misses) (set_follows st.locals x v)
      ∙ given_follows (nat_lt x (length st.locals)) vs (with_locals st (slice_set st.locals x v))

  global_follows : (x : ℕ) (v : Value) (vs : List Value) (st : State) → global_set x (cell_of v) (cells_of vs) (cells_state ms st) ≡ cells_effect (global_set x v vs st)
  global_follows x v vs st =
      ap (λ (n : ℕ). if nat_lt x n then Gives (cells_of vs) (with_globals (cells_state ms st) (slice_set (cells_of st.globals) x (cell_of v))) else Misses) (length-map st.globals cell_of)
      ∙ ap (λ (l : List Value). if nat_lt x (length st.globals) then Gives (cells_of vs) (with_globals (cells_state ms st) l) else Misses) (set_follows st.globals x v)
      ∙ given_follows (nat_lt x (length st.globals)) vs (with_globals st (slice_set st.globals x v))

  variable_follows : (op : Variable) (vs : List Value) (st : State) → variable_effect op (cells_of vs) (cells_state ms st) ≡ cells_effect (variable_effect op vs st)
  variable_follows (variable.LocalGet x) vs st = got_follows st.locals x vs st
  variable_follows (variable.LocalSet x) [] st = refl
  variable_follows (variable.LocalSet x) (v ∷ vs) st = local_follows x v vs st
  variable_follows (variable.LocalTee x) [] st = refl
  variable_follows (variable.LocalTee x) (v ∷ vs) st = local_follows x v (v ∷ vs) st
  variable_follows (variable.GlobalGet x) vs st = got_follows st.globals x vs st
  variable_follows (variable.GlobalSet x) [] st = refl
  variable_follows (variable.GlobalSet x) (v ∷ vs) st = global_follows x v vs st

  store_follows : (o : Option (List ℕ)) (vs : List Value) (st : State) → store_effect (option_map (masked ms) o) (cells_of vs) (cells_state ms st) ≡ cells_effect (store_effect o vs st)
  store_follows None vs st = refl
  store_follows (Some bytes) vs st = refl

  -- what a store does with its number
  abbrev stores : Store → MemoryArgument → State → ℕ → List Value → Effect
  stores op a st n us = popped val_type.I32 us (λ i ws. store_effect (write (i + a.offset) (store_width op) n st.memory) ws st)

  abbrev cell_stores : Store → MemoryArgument → State → ℕ → List Value → Effect
  cell_stores op a st n us =
      popped val_type.I32 us (λ i ws. store_effect (kept_write (i + a.offset) (store_width op) n (masked ms st.memory)) ws (cells_state ms st))

  stores_follow : (may : Value → Bool) (op : Store) (a : MemoryArgument) (vs : List Value) (st : State) → AreFit vs → MemoryTouches (AreMarked ms) (memory.Store op a) vs → IsGiven (memory_effect (memory.Store op a) vs st) → cell_memory may (memory.Store op a) (cells_of vs) (cells_state ms st) ≡ cells_effect (memory_effect (memory.Store op a) vs st)
  stores_follow may op a [] st f t h = absurd h
  stores_follow may op a (v ∷ []) st f t h = pop_one IsGiven Misses (λ h. h) (λ e. e) cells_effect (store_type op) (val_type.I32 ∷ []) v [] (stores op a st) (cell_stores op a st) f h (λ n g. absurd g)
  stores_follow may op a (v ∷ I64 k ∷ vs) st f t h = pop_one IsGiven Misses (λ h. h) (λ e. e) cells_effect (store_type op) (val_type.I32 ∷ []) v (I64 k ∷ vs) (stores op a st) (cell_stores op a st) f h (λ n g. absurd g)
  stores_follow may op a (v ∷ I32 k ∷ vs) st f t h =
      pop_one IsGiven Misses (λ h. h) (λ e. e) cells_effect (store_type op) (val_type.I32 ∷ []) v (I32 k ∷ vs) (stores op a st) (cell_stores op a st) f h (λ n g. stored n g)
    where
      stored : (n : ℕ) → IsGiven (store_effect (write (k + a.offset) (store_width op) n st.memory) vs st) → store_effect (kept_write (narrowed val_type.I32 k + a.offset) (store_width op) n (masked ms st.memory)) (cells_of vs) (cells_state ms st) ≡ cells_effect (store_effect (write (k + a.offset) (store_width op) n st.memory) vs st)
      stored n g =
          let there = leb-true (k + a.offset + store_width op) (length st.memory) (written_asked (k + a.offset) (store_width op) n st.memory vs st g) in
          ap (λ (i : ℕ). store_effect (kept_write (i + a.offset) (store_width op) n (masked ms st.memory)) (cells_of vs) (cells_state ms st)) (narrowed_fit k f.1.0)
          ∙ ap (λ (o : Option (List ℕ)). store_effect o (cells_of vs) (cells_state ms st)) (write_masked ms (k + a.offset) (store_width op) n st.memory t there)
          ∙ store_follows (write (k + a.offset) (store_width op) n st.memory) vs st

  discard_follows : (vs : List Value) (st : State) → effect plain.Drop (cells_of vs) (cells_state ms st) ≡ cells_effect (effect plain.Drop vs st)
  discard_follows [] st = refl
  discard_follows (v ∷ vs) st = refl

  selected_follows : (vs : List Value) (st : State) → AreFit vs → IsGiven (effect plain.Select vs st) → cell_effect in_width plain.Select (cells_of vs) (cells_state ms st) ≡ cells_effect (effect plain.Select vs st)
  selected_follows vs st f h = popped_follows val_type.I32 [] vs _ _ f h (λ n us i g. select_follows n us st g)

  -- ---- calls of the host

  module _ (st : State) where
    argument_follows : (t : ValType) (ts : List ValType) (vs : List Value) (go cell_go : ℕ → List Value → HostEffect) → AreFit vs → IsGiven (lifted st (pop host.Misses t vs go)) → ((n : ℕ) (us : List Value) → AreFit us → IsGiven (lifted st (go n us)) → lifted (cells_state ms st) (cell_go n (seen ts (cells_of us))) ≡ cells_effect (lifted st (go n us))) → lifted (cells_state ms st) (pop host.Misses t (seen (t ∷ ts) (cells_of vs)) cell_go) ≡ cells_effect (lifted st (pop host.Misses t vs go))
    argument_follows = pop_follows (λ e. IsGiven (lifted st e)) host.Misses (λ h. h) (lifted (cells_state ms st)) (λ e. cells_effect (lifted st e))

    slot_follows : (b : Bool) (vs : List Value) (h : Host) → lifted (cells_state ms st) (if b then host.Gives (cells_of vs) h else host.Traps) ≡ cells_effect (lifted st (if b then host.Gives vs h else host.Traps))
    slot_follows true vs h = refl
    slot_follows false vs h = refl

    set_value_follows : (vs : List Value) → AreFit vs → IsGiven (call_effect call.SetValue vs st) → call_effect call.SetValue (seen (val_type.I64 ∷ []) (cells_of vs)) (cells_state ms st) ≡ cells_effect (call_effect call.SetValue vs st)
    set_value_follows vs f h = argument_follows val_type.I64 [] vs _ _ f h (λ n us i g. refl)

    send_follows : (vs : List Value) → AreFit vs → IsGiven (call_effect call.Send vs st) → call_effect call.Send (seen (val_type.I64 ∷ val_type.I64 ∷ []) (cells_of vs)) (cells_state ms st) ≡ cells_effect (call_effect call.Send vs st)
    send_follows vs f h = argument_follows val_type.I64 (val_type.I64 ∷ []) vs _ _ f h (λ n us i g. argument_follows val_type.I64 [] us _ _ i g (λ k ws j l. refl))

    aggregate_follows : (vs : List Value) → AreFit vs → IsGiven (call_effect call.Aggregate vs st) → call_effect call.Aggregate (seen (val_type.I64 ∷ val_type.I32 ∷ []) (cells_of vs)) (cells_state ms st) ≡ cells_effect (call_effect call.Aggregate vs st)
    aggregate_follows vs f h = argument_follows val_type.I64 (val_type.I32 ∷ []) vs _ _ f h (λ n us i g. argument_follows val_type.I32 [] us _ _ i g (λ k ws j l. slot_follows (nat_lt k AGGREGATORS) ws _))

    aggregated_follows : (vs : List Value) → AreFit vs → IsGiven (call_effect call.Aggregated vs st) → call_effect call.Aggregated (seen (val_type.I32 ∷ []) (cells_of vs)) (cells_state ms st) ≡ cells_effect (call_effect call.Aggregated vs st)
    aggregated_follows vs f h = argument_follows val_type.I32 [] vs _ _ f h (λ k us i g. slot_follows (nat_lt k AGGREGATORS) (host.signed (aggregator_value st.host k) ∷ us) st.host)

  -- ---- results

  -- what is done over cells is what is done over values, and all of it fits
  abbrev Follows : Effect → Effect → Type 0
  Follows d e = (d ≡ cells_effect e) × EffectFits e

  any_topped : (e : Effect) → cells_topped of_any_width e ≡ cells_effect e
  any_topped (Gives [] st) = refl
  any_topped (Gives (v ∷ vs) st) = refl
  any_topped Traps = refl
  any_topped Misses = refl

  there : (b : Bool) (d : Effect) → IsGiven (if b then d else Misses) → b ≡ true
  there true d h = refl
  there false d h = absurd h

  -- a result that there may be fits
  width_kept : (e : Effect) → RestFits e → IsGiven (cells_topped in_width e) → Follows (cells_topped in_width e) e
  width_kept (Gives [] st) f h = (refl, (tt, f))
  width_kept (Gives (I32 n ∷ vs) st) f h =
      let g : Effect = Gives (I64 n ∷ cells_of vs) (cells_state ms st) in
      let e : nat_lt n (2 ^ 32) ≡ true = there (nat_lt n (2 ^ 32)) g h in
      (ap (λ (b : Bool). if b then g else Misses) e, ((ltb-true n (2 ^ 32) e, f.0), f.1))
  width_kept (Gives (I64 n ∷ vs) st) f h = (refl, ((tt, f.0), f.1))
  width_kept Traps f h = (refl, tt)
  width_kept Misses f h = (refl, tt)

  kept : (d e : Effect) → d ≡ cells_topped in_width e → RestFits e → IsGiven d → Follows d e
  kept d e is f h =
      let k = width_kept e f (subst IsGiven is h) in
      (is ∙ k.0, k.1)

  -- ---- what instructions do, whatever results there may be, and where they fit

  numeric_of_any : (op : Numeric) (vs : List Value) (st : State) → AreFit vs → IsGiven (numeric_effect op vs st) → cell_numeric of_any_width op (cells_of vs) (cells_state ms st) ≡ cells_effect (numeric_effect op vs st)
  numeric_of_any op vs st f h = numeric_follows of_any_width op vs st f h ∙ any_topped (numeric_effect op vs st)

  effect_follows : (p : Plain) (vs : List Value) (st : State) → AreFit vs → PlainTouches (AreMarked ms) p vs → IsGiven (effect p vs st) → cell_effect of_any_width p (cells_of vs) (cells_state ms st) ≡ cells_effect (effect p vs st)
  effect_follows plain.Nop vs st f t h = refl
  effect_follows plain.Drop vs st f t h = discard_follows vs st
  effect_follows plain.Select vs st f t h = selected_follows vs st f h
  effect_follows (plain.Const v) vs st f t h = refl
  effect_follows (plain.Numeric op) vs st f t h = numeric_of_any op vs st f h
  effect_follows (plain.Variable op) vs st f t h = variable_follows op vs st
  effect_follows (plain.Memory (memory.Load op a)) vs st f t h = loads_follow of_any_width op a vs st f t h ∙ any_topped (memory_effect (memory.Load op a) vs st)
  effect_follows (plain.Memory (memory.Store op a)) vs st f t h = stores_follow of_any_width op a vs st f t h
  effect_follows (plain.Memory memory.Size) vs st f t h = size_follows of_any_width vs st ∙ any_topped (memory_effect memory.Size vs st)
  effect_follows (plain.Memory memory.Grow) vs st f t h = absurd h

  effect_kept : (p : Plain) (vs : List Value) (st : State) → AreFit vs → StateFits st → PlainTouches (AreMarked ms) p vs → IsGiven (effect p vs st) → IsGiven (cell_effect in_width p (cells_of vs) (cells_state ms st)) → Follows (cell_effect in_width p (cells_of vs) (cells_state ms st)) (effect p vs st)
  effect_kept plain.Nop vs st f s t h g = (refl, (f, s))
  effect_kept plain.Drop vs st f s t h g = (discard_follows vs st, discard_fits st s vs f)
  effect_kept plain.Select vs st f s t h g = (selected_follows vs st f h, selected_fits st s vs f)
  effect_kept (plain.Const v) vs st f s t h g = kept (cell_effect in_width (plain.Const v) (cells_of vs) (cells_state ms st)) (effect (plain.Const v) vs st) refl (f, s) g
  effect_kept (plain.Numeric op) vs st f s t h g = kept (cell_numeric in_width op (cells_of vs) (cells_state ms st)) (numeric_effect op vs st) (numeric_follows in_width op vs st f h) (numeric_rest st s op vs f) g
  effect_kept (plain.Variable op) vs st f s t h g = (variable_follows op vs st, variable_fits st s op vs f)
  effect_kept (plain.Memory (memory.Load op a)) vs st f s t h g = kept (cell_memory in_width (memory.Load op a) (cells_of vs) (cells_state ms st)) (memory_effect (memory.Load op a) vs st) (loads_follow in_width op a vs st f t h) (loads_rest st s op a vs f) g
  effect_kept (plain.Memory (memory.Store op a)) vs st f s t h g = (stores_follow in_width op a vs st f t h, stores_fit st s op a vs f)
  effect_kept (plain.Memory memory.Size) vs st f s t h g = kept (cell_memory in_width memory.Size (cells_of vs) (cells_state ms st)) (memory_effect memory.Size vs st) (size_follows in_width vs st) (f, s) g
  effect_kept (plain.Memory memory.Grow) vs st f s t h g = absurd h

  call_follows : (c : HostCall) (vs : List Value) (st : State) → AreFit vs → IsGiven (call_effect c vs st) → cell_call of_any_width c (cells_of vs) (cells_state ms st) ≡ cells_effect (call_effect c vs st)
  call_follows call.VertexId vs st f h = refl
  call_follows call.Superstep vs st f h = refl
  call_follows call.NumVertices vs st f h = refl
  call_follows call.GetValue vs st f h = refl
  call_follows call.SetValue vs st f h = set_value_follows st vs f h
  call_follows call.NextMessage vs st f h = refl
  call_follows call.MessageValue vs st f h = refl
  call_follows call.NextEdge vs st f h = refl
  call_follows call.EdgeTarget vs st f h = refl
  call_follows call.EdgeValue vs st f h = refl
  call_follows call.Send vs st f h = send_follows st vs f h
  call_follows call.Aggregate vs st f h = aggregate_follows st vs f h
  call_follows call.Aggregated vs st f h = aggregated_follows st vs f h
  call_follows call.VoteToHalt vs st f h = refl

  call_kept : (c : HostCall) (vs : List Value) (st : State) → AreFit vs → StateFits st → IsGiven (call_effect c vs st) → IsGiven (cell_call in_width c (cells_of vs) (cells_state ms st)) → Follows (cell_call in_width c (cells_of vs) (cells_state ms st)) (call_effect c vs st)
  call_kept call.VertexId vs st f s h g = (refl, ((tt, f), s))
  call_kept call.Superstep vs st f s h g = (refl, ((tt, f), s))
  call_kept call.NumVertices vs st f s h g = (refl, ((tt, f), s))
  call_kept call.GetValue vs st f s h g = (refl, ((tt, f), s))
  call_kept call.SetValue vs st f s h g = (set_value_follows st vs f h, set_value_fits st s vs f)
  call_kept call.NextMessage vs st f s h g = kept (cell_call in_width call.NextMessage (cells_of vs) (cells_state ms st)) (call_effect call.NextMessage vs st) refl (f, s) g
  call_kept call.MessageValue vs st f s h g = (refl, ((tt, f), s))
  call_kept call.NextEdge vs st f s h g = kept (cell_call in_width call.NextEdge (cells_of vs) (cells_state ms st)) (call_effect call.NextEdge vs st) refl (f, s) g
  call_kept call.EdgeTarget vs st f s h g = (refl, ((tt, f), s))
  call_kept call.EdgeValue vs st f s h g = (refl, ((tt, f), s))
  call_kept call.Send vs st f s h g = (send_follows st vs f h, send_fits st s vs f)
  call_kept call.Aggregate vs st f s h g = (aggregate_follows st vs f h, aggregate_fits st s vs f)
  call_kept call.Aggregated vs st f s h g = (aggregated_follows st vs f h, aggregated_fits st s vs f)
  call_kept call.VoteToHalt vs st f s h g = (refl, (f, s))

  -- ---- steps

  after_follows : (e : Effect) (is : Code) (ls : List ControlEntry) (count : ℕ) → after_effect (cells_effect e) is (cells_entries ls) count ≡ cells ms (after_effect e is ls count)
  after_follows (Gives vs st) is ls count = refl
  after_follows Traps is ls count = refl
  after_follows Misses is ls count = refl

  done_follows : (d e : Effect) (is : Code) (ls : List ControlEntry) (count : ℕ) → is_going (after_effect e is ls count) ≡ true → (IsGiven e → d ≡ cells_effect e) → after_effect d is (cells_entries ls) count ≡ cells ms (after_effect e is ls count)
  done_follows d e is ls count g f =
      ap (λ (x : Effect). after_effect x is (cells_entries ls) count) (f (effect_given e is ls count g)) ∙ after_follows e is ls count

  taking_follows : (vs : List Value) (count : ℕ) (go cell_go : ℕ → List Value → Machine) → AreFit vs → is_going (taking vs count go) ≡ true → ((n : ℕ) (us : List Value) → is_going (go n us) ≡ true → cell_go n (cells_of us) ≡ cells ms (go n us)) → taking (seen (val_type.I32 ∷ []) (cells_of vs)) count cell_go ≡ cells ms (taking vs count go)
  taking_follows vs count go cell_go i g f = pop_follows (λ x. is_going x ≡ true) (Stuck count) false≢true (λ x. x) (cells ms) val_type.I32 [] vs go cell_go i g (λ n us j. f n us)

  jumped_follows : (l : ℕ) (vs : List Value) (ls : List ControlEntry) (st : State) → jump l (first (cells_of vs)) (cells_entries ls) (cells_state ms st) ≡ cells ms (jump l (first vs) ls st)
  jumped_follows l vs ls st = ap (λ (o : Option Value). jump l o (cells_entries ls) (cells_state ms st)) (first_follows vs) ∙ jump_follows l (first vs) ls st

  unless_follows : (n l : ℕ) (vs : List Value) (is : Code) (ls : List ControlEntry) (st : State) → branch_unless_zero n l (cells_of vs) is (cells_entries ls) (cells_state ms st) ≡ cells ms (branch_unless_zero n l vs is ls st)
  unless_follows zero l vs is ls st = refl
  unless_follows (suc n) l vs is ls st = jumped_follows l vs ls st

  branch_follows : (b : Branch) (vs : List Value) (is : Code) (ls : List ControlEntry) (st : State) → AreFit vs → is_going (take_branch b vs is ls st) ≡ true → cell_branch b (cells_of vs) is (cells_entries ls) (cells_state ms st) ≡ cells ms (take_branch b vs is ls st)
  branch_follows (branch.Br l) vs is ls st f g = jumped_follows l vs ls st
  branch_follows (branch.BrIf l) vs is ls st f g = taking_follows vs st.count _ _ f g (λ n us h. unless_follows n l us is ls st)
  branch_follows (branch.BrTable labels other) vs is ls st f g = taking_follows vs st.count _ _ f g (λ n us h. jumped_follows (label_of labels n other) us ls st)
  branch_follows branch.Return vs is ls st f g = ap (λ (o : Option Value). back o (cells_entries ls) (cells_state ms st)) (first_follows vs) ∙ back_follows (first vs) ls st

  turned_follows : (vs : List Value) → reverse (cells_of vs) ≡ cells_of (reverse vs)
  turned_follows [] = refl
  turned_follows (v ∷ vs) =
      reverse-append (cell_of v ∷ []) (cells_of vs) ∙ ap (λ (l : List Value). l ++ cell_of v ∷ []) (turned_follows vs) ∙ sym (map-append cell_of (reverse vs) (v ∷ [])) ∙ ap cells_of (sym (reverse-append (v ∷ []) vs))

  -- the locals of a frame
  frame_follows : (k : ℕ) (vs : List Value) (ts : List ValType) → reverse (take k (cells_of vs)) ++ zero_cells ts ≡ cells_of (reverse (take k vs) ++ map zero_of ts)
  frame_follows k vs ts =
      ap (λ (l : List Value). reverse l ++ zero_cells ts) (take-map cell_of k vs)
      ∙ ap (λ (l : List Value). l ++ zero_cells ts) (turned_follows (take k vs))
      ∙ ap (λ (l : List Value). cells_of (reverse (take k vs)) ++ l) (zeros_follow ts)
      ∙ sym (map-append cell_of (reverse (take k vs)) (map zero_of ts))

  entered_follows : (b : Bool) (x : Machine) (count : ℕ) → (if b then cells ms x else Stuck count) ≡ cells ms (if b then x else Stuck count)
  entered_follows true x count = refl
  entered_follows false x count = refl

  enter_follows : (f : Function) (o : Option FuncType) (vs : List Value) (is : Code) (ls : List ControlEntry) (st : State) → enter (celled f) o (cells_of vs) is (cells_entries ls) (cells_state ms st) ≡ cells ms (enter f o vs is ls st)
  enter_follows f None vs is ls st = refl
  enter_follows f (Some t) vs is ls st =
      let k = length t.parameters in
      let into : (n : ℕ) (below locals : List Value) → Machine = λ (n : ℕ) (below locals : List Value). if nat_le k n then Running [] f.body (Frame (gives_one t.results) (cells_of st.locals) below is ∷ cells_entries ls) (with_locals (cells_state ms st) locals) else Stuck st.count in
      let locals = reverse (take k (cells_of vs)) ++ zero_cells f.locals in
      ap (λ (n : ℕ). into n (drop k (cells_of vs)) locals) (length-map vs cell_of)
      ∙ ap (λ (l : List Value). into (length vs) l locals) (drop-map cell_of k vs)
      ∙ ap (λ (l : List Value). into (length vs) (cells_of (drop k vs)) l) (frame_follows k vs f.locals)
      ∙ entered_follows (nat_le k (length vs)) (Running [] f.body (Frame (gives_one t.results) st.locals (drop k vs) is ∷ ls) (with_locals st (reverse (take k vs) ++ map zero_of f.locals))) st.count

  -- one of the host's functions, if it is there
  host_follows : (m : Module) (c : Option HostCall) (vs : List Value) (is : Code) (ls : List ControlEntry) (st : State) → AreFit vs → is_going (take_call m (Some (machine.host c)) vs is ls st) ≡ true → cell_take_call of_any_width m (Some (machine.host c)) (cells_of vs) is (cells_entries ls) (cells_state ms st) ≡ cells ms (take_call m (Some (machine.host c)) vs is ls st)
  host_follows m None vs is ls st f g = refl
  host_follows m (Some c) vs is ls st f g =
      done_follows (cell_call of_any_width c (cells_of vs) (cells_state ms st)) (call_effect c vs st) is ls st.count g (call_follows c vs st f)

  called_follows : (m : Module) (o : Option Callee) (vs : List Value) (is : Code) (ls : List ControlEntry) (st : State) → AreFit vs → is_going (take_call m o vs is ls st) ≡ true → cell_take_call of_any_width m o (cells_of vs) is (cells_entries ls) (cells_state ms st) ≡ cells ms (take_call m o vs is ls st)
  called_follows m None vs is ls st f g = refl
  called_follows m (Some (machine.host c)) vs is ls st f g = host_follows m c vs is ls st f g
  called_follows m (Some (defined d)) vs is ls st f g = enter_follows d (slice_get m.types d.type_number) vs is ls st

  next_follows : (m : Module) (vs : List Value) (next : Code) (ls : List ControlEntry) (st : State) → AreFit vs → Touches (AreMarked ms) (Running vs next ls st) → is_going (take_next m vs next ls st) ≡ true → cell_next of_any_width m (cells_of vs) next (cells_entries ls) (cells_state ms st) ≡ cells ms (take_next m vs next ls st)
  next_follows m vs code.end ls st f w g = leave_follows vs ls st
  next_follows m vs (code.plain p is) ls st f w g = done_follows (cell_effect of_any_width p (cells_of vs) (cells_state ms st)) (effect p vs st) is ls st.count g (effect_follows p vs st f w)
  next_follows m vs (code.branch b is) ls st f w g = branch_follows b vs is ls st f g
  next_follows m vs (code.call n is) ls st f w g = called_follows m (slice_get (functions_of m) n) vs is ls st f g
  next_follows m vs (code.call_indirect t is) ls st f w g = refl
  next_follows m vs (code.unreachable is) ls st f w g = refl
  next_follows m vs (code.block t body is) ls st f w g = refl
  next_follows m vs (code.loop t body is) ls st f w g = refl
  next_follows m vs (code.choice t body other is) ls st f w g = taking_follows vs st.count _ _ f g (λ n us h. refl)

  step_at : (m : Module) (vs : List Value) (next : Code) (ls : List ControlEntry) (st : State) → MachineFits (Running vs next ls st) → Touches (AreMarked ms) (Running vs next ls st) → is_going (advance m (Running vs next ls st)) ≡ true → cell_advance of_any_width m (cells ms (Running vs next ls st)) ≡ cells ms (advance m (Running vs next ls st))
  step_at m vs code.end ls st f w g = leave_follows vs ls st
  step_at m vs (code.plain p is) ls st f w g = next_follows m vs (code.plain p is) ls (tick (next_units m (code.plain p is)) st) f.0 w g
  step_at m vs (code.branch b is) ls st f w g = next_follows m vs (code.branch b is) ls (tick (next_units m (code.branch b is)) st) f.0 w g
  step_at m vs (code.call n is) ls st f w g = next_follows m vs (code.call n is) ls (tick (next_units m (code.call n is)) st) f.0 w g
  step_at m vs (code.call_indirect t is) ls st f w g = next_follows m vs (code.call_indirect t is) ls (tick (next_units m (code.call_indirect t is)) st) f.0 w g
  step_at m vs (code.unreachable is) ls st f w g = next_follows m vs (code.unreachable is) ls (tick (next_units m (code.unreachable is)) st) f.0 w g
  step_at m vs (code.block t body is) ls st f w g = next_follows m vs (code.block t body is) ls (tick (next_units m (code.block t body is)) st) f.0 w g
  step_at m vs (code.loop t body is) ls st f w g = next_follows m vs (code.loop t body is) ls (tick (next_units m (code.loop t body is)) st) f.0 w g
  step_at m vs (code.choice t body other is) ls st f w g = next_follows m vs (code.choice t body other is) ls (tick (next_units m (code.choice t body other is)) st) f.0 w g

  -- a step that is there
  pub step_follows : (m : Module) (p : Place) → MachineFits (running p) → Touches (AreMarked ms) (running p) → is_going (advance m (running p)) ≡ true → cell_advance of_any_width m (running (cells_place ms p)) ≡ cells ms (advance m (running p))
  step_follows m p f t g = step_at m p.values p.code p.entries p.state f t g

  -- ---- a step over cells that is there, with results in their width

  abbrev Kept : Machine → Machine → Type 0
  Kept y x = (y ≡ cells ms x) × MachineFits x

  after_kept : (d e : Effect) (is : Code) (ls : List ControlEntry) (count : ℕ) → EntriesFit ls → is_going (after_effect e is ls count) ≡ true → is_going (after_effect d is (cells_entries ls) count) ≡ true → (IsGiven e → IsGiven d → Follows d e) → Kept (after_effect d is (cells_entries ls) count) (after_effect e is ls count)
  after_kept d e is ls count l g h f =
      let k = f (effect_given e is ls count g) (effect_given d is (cells_entries ls) count h) in
      (ap (λ (x : Effect). after_effect x is (cells_entries ls) count) k.0 ∙ after_follows e is ls count, after_fits e is ls count k.1 l)

  host_kept : (m : Module) (c : Option HostCall) (vs : List Value) (is : Code) (ls : List ControlEntry) (st : State) → AreFit vs → EntriesFit ls → StateFits st → is_going (take_call m (Some (machine.host c)) vs is ls st) ≡ true → is_going (cell_take_call in_width m (Some (machine.host c)) (cells_of vs) is (cells_entries ls) (cells_state ms st)) ≡ true → Kept (cell_take_call in_width m (Some (machine.host c)) (cells_of vs) is (cells_entries ls) (cells_state ms st)) (take_call m (Some (machine.host c)) vs is ls st)
  host_kept m None vs is ls st f l s g h = (refl, tt)
  host_kept m (Some c) vs is ls st f l s g h =
      after_kept (cell_call in_width c (cells_of vs) (cells_state ms st)) (call_effect c vs st) is ls st.count l g h (call_kept c vs st f s)

  called_kept : (m : Module) (o : Option Callee) (vs : List Value) (is : Code) (ls : List ControlEntry) (st : State) → AreFit vs → EntriesFit ls → StateFits st → is_going (take_call m o vs is ls st) ≡ true → is_going (cell_take_call in_width m o (cells_of vs) is (cells_entries ls) (cells_state ms st)) ≡ true → Kept (cell_take_call in_width m o (cells_of vs) is (cells_entries ls) (cells_state ms st)) (take_call m o vs is ls st)
  called_kept m None vs is ls st f l s g h = (refl, tt)
  called_kept m (Some (machine.host c)) vs is ls st f l s g h = host_kept m c vs is ls st f l s g h
  called_kept m (Some (defined d)) vs is ls st f l s g h = (enter_follows d (slice_get m.types d.type_number) vs is ls st, enter_fits d (slice_get m.types d.type_number) vs is ls st f l s)

  next_kept : (m : Module) (vs : List Value) (next : Code) (ls : List ControlEntry) (st : State) → AreFit vs → EntriesFit ls → StateFits st → Touches (AreMarked ms) (Running vs next ls st) → is_going (take_next m vs next ls st) ≡ true → is_going (cell_next in_width m (cells_of vs) next (cells_entries ls) (cells_state ms st)) ≡ true → Kept (cell_next in_width m (cells_of vs) next (cells_entries ls) (cells_state ms st)) (take_next m vs next ls st)
  next_kept m vs code.end ls st f l s w g h = (leave_follows vs ls st, leave_fits vs ls st f l s)
  next_kept m vs (code.plain p is) ls st f l s w g h = after_kept (cell_effect in_width p (cells_of vs) (cells_state ms st)) (effect p vs st) is ls st.count l g h (effect_kept p vs st f s w)
  next_kept m vs (code.branch b is) ls st f l s w g h = (branch_follows b vs is ls st f g, branch_fits b vs is ls st f l s)
  next_kept m vs (code.call n is) ls st f l s w g h = called_kept m (slice_get (functions_of m) n) vs is ls st f l s g h
  next_kept m vs (code.call_indirect t is) ls st f l s w g h = (refl, tt)
  next_kept m vs (code.unreachable is) ls st f l s w g h = (refl, tt)
  next_kept m vs (code.block t body is) ls st f l s w g h = (refl, (tt, ((f, l), s)))
  next_kept m vs (code.loop t body is) ls st f l s w g h = (refl, (tt, ((f, l), s)))
  next_kept m vs (code.choice t body other is) ls st f l s w g h = (taking_follows vs st.count _ _ f g (λ n us k. refl), taking_fits vs st.count _ f (λ n us i. (tt, ((i, l), s))))

  kept_at : (m : Module) (vs : List Value) (next : Code) (ls : List ControlEntry) (st : State) → MachineFits (Running vs next ls st) → Touches (AreMarked ms) (Running vs next ls st) → is_going (advance m (Running vs next ls st)) ≡ true → is_going (cell_advance in_width m (cells ms (Running vs next ls st))) ≡ true → Kept (cell_advance in_width m (cells ms (Running vs next ls st))) (advance m (Running vs next ls st))
  kept_at m vs code.end ls st f w g h = (leave_follows vs ls st, leave_fits vs ls st f.0 f.1.0 f.1.1)
  kept_at m vs (code.plain p is) ls st f w g h = next_kept m vs (code.plain p is) ls (tick (next_units m (code.plain p is)) st) f.0 f.1.0 f.1.1 w g h
  kept_at m vs (code.branch b is) ls st f w g h = next_kept m vs (code.branch b is) ls (tick (next_units m (code.branch b is)) st) f.0 f.1.0 f.1.1 w g h
  kept_at m vs (code.call n is) ls st f w g h = next_kept m vs (code.call n is) ls (tick (next_units m (code.call n is)) st) f.0 f.1.0 f.1.1 w g h
  kept_at m vs (code.call_indirect t is) ls st f w g h = next_kept m vs (code.call_indirect t is) ls (tick (next_units m (code.call_indirect t is)) st) f.0 f.1.0 f.1.1 w g h
  kept_at m vs (code.unreachable is) ls st f w g h = next_kept m vs (code.unreachable is) ls (tick (next_units m (code.unreachable is)) st) f.0 f.1.0 f.1.1 w g h
  kept_at m vs (code.block t body is) ls st f w g h = next_kept m vs (code.block t body is) ls (tick (next_units m (code.block t body is)) st) f.0 f.1.0 f.1.1 w g h
  kept_at m vs (code.loop t body is) ls st f w g h = next_kept m vs (code.loop t body is) ls (tick (next_units m (code.loop t body is)) st) f.0 f.1.0 f.1.1 w g h
  kept_at m vs (code.choice t body other is) ls st f w g h = next_kept m vs (code.choice t body other is) ls (tick (next_units m (code.choice t body other is)) st) f.0 f.1.0 f.1.1 w g h

  pub step_kept : (m : Module) (p : Place) → MachineFits (running p) → Touches (AreMarked ms) (running p) → is_going (advance m (running p)) ≡ true → is_going (cell_advance in_width m (running (cells_place ms p))) ≡ true → Kept (cell_advance in_width m (running (cells_place ms p))) (advance m (running p))
  step_kept m p f t g h = kept_at m p.values p.code p.entries p.state f t g h
