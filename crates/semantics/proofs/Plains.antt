-- The results of instructions that neither branch nor call, where their operands meet the requirements.
use Rattle.std.proofs.Common.{◌≡◌, ℕ, zero, suc, ◌+◌, ◌/◌, ◌≤◌, Bool, false, List, [], ◌∷◌, ◌++◌, length, take, drop, slice_get, Option, Some, None, option_map, if◌then◌else◌, refl, sym, ap, ◌∙◌, subst, arith}
use Rattle.std.specs.Prelude.{slice_set, ◌&&◌, ◌==◌}
use Rattle.std.specs.Int.{bytes_low_first}
use Rattle.std.proofs.lemmas.Bool.{lt-ltb, le-leb, ne_eqb, or_from, and_right}
use Rattle.std.proofs.lemmas.List.{length-append, length-take-le, length-drop}
use Rattle.std.proofs.lemmas.Option.{slice_get-map}
use Rattle.wasm_ast.specs.declared.types.ValType.{ValType}
use Rattle.wasm_ast.specs.declared.types.ValType.TheVariants as val_type
use Rattle.wasm_ast.specs.declared.types.GlobalType.{GlobalType}
use Rattle.wasm_ast.specs.declared.types.Value.{Value}
use Rattle.wasm_ast.specs.declared.types.Value.TheVariants.{I32, I64}
use Rattle.wasm_ast.specs.declared.numeric.Division.{Division}
use Rattle.wasm_ast.specs.declared.numeric.Division.TheVariants as division
use Rattle.wasm_ast.specs.declared.numeric.Numeric.{Numeric}
use Rattle.wasm_ast.specs.declared.numeric.Numeric.TheVariants as numeric
use Rattle.wasm_ast.specs.declared.plain.Load.{Load}
use Rattle.wasm_ast.specs.declared.plain.Store.{Store}
use Rattle.wasm_ast.specs.declared.plain.Memory.TheVariants as memory
use Rattle.wasm_ast.specs.declared.plain.Variable.TheVariants as variable
use Rattle.wasm_ast.specs.declared.plain.Plain.{Plain}
use Rattle.wasm_ast.specs.declared.plain.Plain.TheVariants as plain
use Rattle.wasm_ast.specs.declared.module.Module.{Module}
use Rattle.wasm_ast.specs.Code as code
use Rattle.semantics.specs.Operations as numbers
use Rattle.wasm_ast.specs.Numeric.{bits_of, truth, conversion_from, conversion_to}
use Rattle.semantics.specs.Operations.{eqz_value, comparison_holds, unary_value, binary_value, division_traps, division_value, conversion_value}
use Rattle.wasm_ast.specs.NumericTypes.{numeric_gives}
use Rattle.wasm_ast.specs.Widths.{load_width, load_type, store_width, store_type}
use Rattle.wasm_ast.specs.Values.{type_of}
use Rattle.verified.specs.declared.requirements.Premise.TheVariants as premise
use Rattle.verified.specs.declared.requirements.Requirement.{Requirement}
use Rattle.verified.specs.declared.requirements.Requirement.TheVariants as requirement
use Rattle.verified.specs.Spaces.{spaces_of}
use Rattle.verified.specs.Kinds.{Kind, Any, Met, AllMeet}
use Rattle.verified.specs.Memory.{page, number_of, memory_bytes}
use Rattle.verified.specs.Known.{Context, division_premise, numeric_requirements, constant_kind, PlainKnown}
use Rattle.verified.specs.Shapes.{NotGrow}
use Rattle.verified.specs.Profile.{asks_all}
use Rattle.semantics.specs.Configuration.{State, with_locals, with_globals, with_memory, Effect, Gives, Traps, Misses}
use Rattle.semantics.specs.Memory.{read, write, laid, bytes_of_number, number_of_bytes, loaded}
use Rattle.semantics.specs.Effects.{value, popped, effect, numeric_effect, division_effect, discard, select, pushed, local_set, global_set, variable_effect, load_effect, store_effect, memory_effect}
use Rattle.semantics.proofs.Values.{HasKinds, HasTypes, Takes, takes, kept, type-value, popped_any, popped_known, value_at, value_set, place_within}
use Rattle.semantics.proofs.Sound.{Sound, Given, same_state, global_types}

-- what code is looked at in, where all constants are asked
abbrev pub context : Module → List ValType → Option ValType → List (Option ValType) → Context
context m locals outcome labels = record { «module» = m; asks = asks_all; locals = locals; labels = labels; outcome = outcome }

-- ---- lengths of memories

pub bytes_length : (i n x : ℕ) → length (bytes_low_first i n x) ≡ n
bytes_length i zero x = refl
bytes_length i (suc n) x = ap suc (bytes_length (suc i) n x)

spliced_length : (place : ℕ) (others bytes : List ℕ) → place + length others ≤ length bytes → length (take place bytes ++ others ++ drop (place + length others) bytes) ≡ length bytes
spliced_length place others bytes h =
    let t = length-take-le place bytes (omega arith) in
    let d = length-drop (place + length others) bytes in
    let a = length-append (take place bytes) (others ++ drop (place + length others) bytes) in
    let b = length-append others (drop (place + length others) bytes) in
    let e = length-append (take place bytes ++ others) (drop (place + length others) bytes) in
    let g = length-append (take place bytes) others in
    omega (arith, t, d, a, b, e, g, h)

pub laid_there : (place : ℕ) (others bytes : List ℕ) → place + length others ≤ length bytes → (after : List ℕ) × (laid place others bytes ≡ Some after) × (length after ≡ length bytes)
laid_there place others bytes h = (
  take place bytes ++ others ++ drop (place + length others) bytes,
  ap (λ (b : Bool). if b then Some (take place bytes ++ others ++ drop (place + length others) bytes) else None) (le-leb (place + length others) (length bytes) h),
  spliced_length place others bytes h,
)

written : (place width n : ℕ) (bytes : List ℕ) → place + width ≤ length bytes → (after : List ℕ) × (write place width n bytes ≡ Some after) × (length after ≡ length bytes)
written place width n bytes h =
    let l : length (bytes_of_number width n) ≡ width = bytes_length 0 width n in
    laid_there place (bytes_of_number width n) bytes (omega (arith, l, h))

was_read : (place width : ℕ) (bytes : List ℕ) → place + width ≤ length bytes → read place width bytes ≡ Some (number_of_bytes (take width (drop place bytes)))
was_read place width bytes h =
    ap (λ (b : Bool). if b then Some (number_of_bytes (take width (drop place bytes))) else None) (le-leb (place + width) (length bytes) h)

-- ---- divisions

no_trap : (t : ValType) (op : Division) (x n bytes : ℕ) → Met bytes t (division_premise op) n → division_traps (bits_of t) op x n ≡ false
no_trap val_type.I32 division.DivS x n bytes h = or_from (n == 0) (x == numbers.least 32 && n == 4294967295) (ne_eqb n 0 h.0) (and_right (x == numbers.least 32) (n == 4294967295) (ne_eqb n 4294967295 h.1))
no_trap val_type.I64 division.DivS x n bytes h = or_from (n == 0) (x == numbers.least 64 && n == 18446744073709551615) (ne_eqb n 0 h.0) (and_right (x == numbers.least 64) (n == 18446744073709551615) (ne_eqb n 18446744073709551615 h.1))
no_trap t division.DivU x n bytes h = ne_eqb n 0 h
no_trap t division.RemS x n bytes h = ne_eqb n 0 h
no_trap t division.RemU x n bytes h = ne_eqb n 0 h

module _ (m : Module) (ls : List ValType) where
  -- the result of an instruction, where the operands that it takes meet the requirements
  abbrev GivesWith : List Requirement → List Kind → (List Value → State → Effect) → Type 0
  GivesWith ws given act =
      (vs us : List Value) (st : State) (below : List Kind) → Takes (memory_bytes m) ws vs us → HasKinds us below → Sound m ls st → Given m ls (act vs st) st (given ++ below)

  unary : (t u : ValType) (f : ℕ → ℕ) → GivesWith (requirement.Value t ∷ []) (Any u ∷ []) (λ vs st. popped t vs (λ x ws. Gives (value u (f x) ∷ ws) st))
  unary t u f [] us st below k h s = absurd k
  unary t u f (v ∷ vs) us st below k h s =
      same_state m ls _ st (Any u ∷ below) (value u (f (number_of v)) ∷ vs) (popped_any Misses t v vs (λ x ws. Gives (value u (f x) ∷ ws) st) k.0) (type-value u (f (number_of v)), kept vs us below k.1 h) s

  binary : (t u : ValType) (f : ℕ → ℕ → ℕ) → GivesWith (requirement.Value t ∷ requirement.Value t ∷ []) (Any u ∷ []) (λ vs st. popped t vs (λ y ws. popped t ws (λ x zs. Gives (value u (f x y) ∷ zs) st)))
  binary t u f [] us st below k h s = absurd k
  binary t u f (y ∷ []) us st below k h s = absurd k.1
  binary t u f (y ∷ x ∷ vs) us st below k h s =
      same_state m ls _ st (Any u ∷ below) (value u (f (number_of x) (number_of y)) ∷ vs)
      (popped_any Misses t y (x ∷ vs) (λ y ws. popped t ws (λ x zs. Gives (value u (f x y) ∷ zs) st)) k.0 ∙ popped_any Misses t x vs (λ x zs. Gives (value u (f x (number_of y)) ∷ zs) st) k.1.0)
      (type-value u (f (number_of x) (number_of y)), kept vs us below k.1.1 h) s

  divided : (t : ValType) (op : Division) → GivesWith (requirement.Constant t (division_premise op) ∷ requirement.Value t ∷ []) (Any t ∷ []) (λ vs st. popped t vs (λ y us. popped t us (λ x ws. division_effect t op x y ws st)))
  divided t op [] us st below k h s = absurd k
  divided t op (y ∷ []) us st below k h s = absurd k.1
  divided t op (y ∷ x ∷ vs) us st below k h s =
      let n = k.0.0 in
      let z = number_of x in
      same_state m ls _ st (Any t ∷ below) (value t (division_value (bits_of t) op z n) ∷ vs)
      (popped_known Misses t y n (x ∷ vs) (λ y ws. popped t ws (λ x zs. division_effect t op x y zs st)) k.0.1
      ∙ popped_any Misses t x vs (λ x zs. division_effect t op x n zs st) k.1.0
      ∙ ap (λ (b : Bool). if b then Traps else Gives (value t (division_value (bits_of t) op z n) ∷ vs) st) (no_trap t op z n (memory_bytes m) k.0.2))
      (type-value t (division_value (bits_of t) op z n), kept vs us below k.1.1 h) s

  -- from the typing of an instruction
  from_changes : (ws : List Requirement) (given from to : List Kind) (act : List Value → State → Effect) → GivesWith ws given act → (below : List Kind) → AllMeet (memory_bytes m) ws from below → to ≡ given ++ below → (vs : List Value) (st : State) → HasKinds vs from → Sound m ls st → Given m ls (act vs st) st to
  from_changes ws given from to act g below a t vs st h s =
      let r = takes (memory_bytes m) ws vs from below a h in
      subst (λ (ks : List Kind). Given m ls (act vs st) st ks) (sym t) (g vs r.0 st below r.1 r.2 s)

  numeric_given : (op : Numeric) (outcome : Option ValType) (labels : List (Option ValType)) → GivesWith (numeric_requirements (context m ls outcome labels) op) (Any (numeric_gives op) ∷ []) (numeric_effect op)
  numeric_given (numeric.Eqz t) o l = unary t val_type.I32 eqz_value
  numeric_given (numeric.Comparison t op) o l = binary t val_type.I32 (λ x y. truth (comparison_holds (bits_of t) op x y))
  numeric_given (numeric.Unary t op) o l = unary t t (unary_value (bits_of t) op)
  numeric_given (numeric.Binary t op) o l = binary t t (binary_value (bits_of t) op)
  numeric_given (numeric.Division t op) o l = divided t op
  numeric_given (numeric.Conversion op) o l = unary (conversion_from op) (conversion_to op) (conversion_value op)

  -- ---- any operands

  nop_given : GivesWith [] [] (effect plain.Nop)
  nop_given vs us st below k h s = same_state m ls _ st below vs refl (kept vs us below k h) s

  drop_given : (t : ValType) → GivesWith (requirement.Value t ∷ []) [] discard
  drop_given t [] us st below k h s = absurd k
  drop_given t (v ∷ vs) us st below k h s = same_state m ls _ st below vs refl (kept vs us below k.1 h) s

  selected : (t : ValType) (n : ℕ) (b a : Value) (vs : List Value) (st : State) → type_of b ≡ t → type_of a ≡ t → (v : Value) × (select n (b ∷ a ∷ vs) st ≡ Gives (v ∷ vs) st) × (type_of v ≡ t)
  selected t zero (I32 b) (I32 a) vs st e g = (I32 b, refl, e)
  selected t (suc n) (I32 b) (I32 a) vs st e g = (I32 a, refl, g)
  selected t zero (I64 b) (I64 a) vs st e g = (I64 b, refl, e)
  selected t (suc n) (I64 b) (I64 a) vs st e g = (I64 a, refl, g)
  selected t n (I32 b) (I64 a) vs st e g = absurd cc
  selected t n (I64 b) (I32 a) vs st e g = absurd cc

  select_given : (t : ValType) → GivesWith (requirement.Value val_type.I32 ∷ requirement.Value t ∷ requirement.Value t ∷ []) (Any t ∷ []) (effect plain.Select)
  select_given t [] us st below k h s = absurd k
  select_given t (c ∷ []) us st below k h s = absurd k.1
  select_given t (c ∷ b ∷ []) us st below k h s = absurd k.1.1
  select_given t (c ∷ b ∷ a ∷ vs) us st below k h s =
      let r = selected t (number_of c) b a vs st k.1.0 k.1.1.0 in
      same_state m ls _ st (Any t ∷ below) (r.0 ∷ vs) (popped_any Misses val_type.I32 c (b ∷ a ∷ vs) (λ n ws. select n ws st) k.0 ∙ r.1) (r.2, kept vs us below k.1.1.1 h) s

  const_given : (v : Value) → GivesWith [] (constant_kind v ∷ []) (effect (plain.Const v))
  const_given (I32 n) vs us st below k h s = same_state m ls _ st _ (I32 n ∷ vs) refl (refl, kept vs us below k h) s
  const_given (I64 n) vs us st below k h s = same_state m ls _ st _ (I64 n ∷ vs) refl (refl, kept vs us below k h) s

  -- ---- variables

  get_given : (os : List Value) (ts : List ValType) (x : ℕ) (t : ValType) (vs us : List Value) (st : State) (below : List Kind) → HasTypes os ts → slice_get ts x ≡ Some t → vs ≡ us → HasKinds us below → Sound m ls st → Given m ls (pushed (slice_get os x) vs st) st (Any t ∷ below)
  get_given os ts x t vs us st below o e k h s =
      let v = value_at os ts x t o e in
      same_state m ls _ st (Any t ∷ below) (v.0 ∷ vs) (ap (λ (a : Option Value). pushed a vs st) v.1) (v.2, kept vs us below k h) s

  local_given : (x : ℕ) (t : ValType) (v : Value) (vs : List Value) (st : State) (to : List Kind) → slice_get ls x ≡ Some t → type_of v ≡ t → HasKinds vs to → Sound m ls st → Given m ls (local_set x v vs st) st to
  local_given x t v vs st to e i h s =
      record {
        values = vs;
        state = with_locals st (slice_set st.locals x v);
        gives = ap (λ (b : Bool). if b then Gives vs (with_locals st (slice_set st.locals x v)) else Misses) (lt-ltb x (length st.locals) (place_within st.locals ls x t s.locals_typed e));
        kinds = h;
        sound = record { locals_typed = value_set st.locals ls x t v s.locals_typed e i; globals_typed = s.globals_typed; bytes_there = s.bytes_there };
        taken = 0;
        items = omega arith;
        counts = refl;
      }

  global_given : (x : ℕ) (t : ValType) (v : Value) (vs : List Value) (st : State) (to : List Kind) → slice_get (global_types m) x ≡ Some t → type_of v ≡ t → HasKinds vs to → Sound m ls st → Given m ls (global_set x v vs st) st to
  global_given x t v vs st to e i h s =
      record {
        values = vs;
        state = with_globals st (slice_set st.globals x v);
        gives = ap (λ (b : Bool). if b then Gives vs (with_globals st (slice_set st.globals x v)) else Misses) (lt-ltb x (length st.globals) (place_within st.globals (global_types m) x t s.globals_typed e));
        kinds = h;
        sound = record { locals_typed = s.locals_typed; globals_typed = value_set st.globals (global_types m) x t v s.globals_typed e i; bytes_there = s.bytes_there };
        taken = 0;
        items = omega arith;
        counts = refl;
      }

  set_given : (x : ℕ) (t : ValType) → slice_get ls x ≡ Some t → GivesWith (requirement.Value t ∷ []) [] (variable_effect (variable.LocalSet x))
  set_given x t e [] us st below k h s = absurd k
  set_given x t e (v ∷ vs) us st below k h s = local_given x t v vs st below e k.0 (kept vs us below k.1 h) s

  tee_given : (x : ℕ) (t : ValType) → slice_get ls x ≡ Some t → GivesWith (requirement.Value t ∷ []) (Any t ∷ []) (variable_effect (variable.LocalTee x))
  tee_given x t e [] us st below k h s = absurd k
  tee_given x t e (v ∷ vs) us st below k h s = local_given x t v (v ∷ vs) st (Any t ∷ below) e k.0 (k.0, kept vs us below k.1 h) s

  global_set_given : (x : ℕ) (t : ValType) → slice_get (global_types m) x ≡ Some t → GivesWith (requirement.Value t ∷ []) [] (variable_effect (variable.GlobalSet x))
  global_set_given x t e [] us st below k h s = absurd k
  global_set_given x t e (v ∷ vs) us st below k h s = global_given x t v vs st below e k.0 (kept vs us below k.1 h) s

  global_at : (x : ℕ) (g : GlobalType) → slice_get (spaces_of m).globals x ≡ Some g → slice_get (global_types m) x ≡ Some g.value
  global_at x g e = slice_get-map (λ (g : GlobalType). g.value) (spaces_of m).globals x ∙ ap (λ (o : Option GlobalType). option_map (λ (g : GlobalType). g.value) o) e

  -- ---- memory

  load_given : (op : Load) (offset : ℕ) → GivesWith (requirement.Constant val_type.I32 (premise.Reaches offset (load_width op)) ∷ []) (Any (load_type op) ∷ []) (λ vs st. popped val_type.I32 vs (λ i us. load_effect op (read (i + offset) (load_width op) st.memory) us st))
  load_given op offset [] us st below k h s = absurd k
  load_given op offset (v ∷ vs) us st below k h s =
      let n = k.0.0 in
      let r = number_of_bytes (take (load_width op) (drop (n + offset) st.memory)) in
      same_state m ls _ st (Any (load_type op) ∷ below) (value (load_type op) (loaded op r) ∷ vs)
      (popped_known Misses val_type.I32 v n vs (λ i us. load_effect op (read (i + offset) (load_width op) st.memory) us st) k.0.1
      ∙ ap (λ (o : Option ℕ). load_effect op o vs st) (was_read (n + offset) (load_width op) st.memory (omega (arith, k.0.2, s.bytes_there))))
      (type-value (load_type op) (loaded op r), kept vs us below k.1 h) s

  store_given : (op : Store) (offset : ℕ) → GivesWith (requirement.Value (store_type op) ∷ requirement.Constant val_type.I32 (premise.Reaches offset (store_width op)) ∷ []) [] (λ vs st. popped (store_type op) vs (λ n us. popped val_type.I32 us (λ i ws. store_effect (write (i + offset) (store_width op) n st.memory) ws st)))
  store_given op offset [] us st below k h s = absurd k
  store_given op offset (v ∷ []) us st below k h s = absurd k.1
  store_given op offset (v ∷ a ∷ vs) us st below k h s =
      let n = k.1.0.0 in
      let w = written (n + offset) (store_width op) (number_of v) st.memory (omega (arith, k.1.0.2, s.bytes_there)) in
      record {
        values = vs;
        state = with_memory st w.0;
        gives = popped_any Misses (store_type op) v (a ∷ vs) (λ n us. popped val_type.I32 us (λ i ws. store_effect (write (i + offset) (store_width op) n st.memory) ws st)) k.0
            ∙ popped_known Misses val_type.I32 a n vs (λ i ws. store_effect (write (i + offset) (store_width op) (number_of v) st.memory) ws st) k.1.0.1
            ∙ ap (λ (o : Option (List ℕ)). store_effect o vs st) w.1;
        kinds = kept vs us below k.1.1 h;
        sound = record { locals_typed = s.locals_typed; globals_typed = s.globals_typed; bytes_there = w.2 ∙ s.bytes_there };
        taken = 0;
        items = omega arith;
        counts = refl;
      }

  size_given : GivesWith [] (Any val_type.I32 ∷ []) (memory_effect memory.Size)
  size_given vs us st below k h s = same_state m ls _ st _ (I32 (length st.memory / page) ∷ vs) refl (refl, kept vs us below k h) s

  -- ---- all of them

  module _ (o : Option ValType) (labels : List (Option ValType)) where
    pub plain_given : (p : Plain) (from to : List Kind) → PlainKnown (context m ls o labels) p from to → NotGrow (code.plain p code.end) → (vs : List Value) (st : State) → HasKinds vs from → Sound m ls st → Given m ls (effect p vs st) st to
    plain_given plain.Nop from to t g vs st h s = from_changes [] [] from to (effect plain.Nop) nop_given t.0 t.1 t.2 vs st h s
    plain_given plain.Drop from to t g vs st h s = from_changes (requirement.Value t.0 ∷ []) [] from to discard (drop_given t.0) t.1.0 t.1.1 t.1.2 vs st h s
    plain_given plain.Select from to t g vs st h s = from_changes (requirement.Value val_type.I32 ∷ requirement.Value t.0 ∷ requirement.Value t.0 ∷ []) (Any t.0 ∷ []) from to (effect plain.Select) (select_given t.0) t.1.0 t.1.1 t.1.2 vs st h s
    plain_given (plain.Const v) from to t g vs st h s = from_changes [] (constant_kind v ∷ []) from to (effect (plain.Const v)) (const_given v) t.0 t.1 t.2 vs st h s
    plain_given (plain.Numeric op) from to t g vs st h s = from_changes (numeric_requirements (context m ls o labels) op) (Any (numeric_gives op) ∷ []) from to (numeric_effect op) (numeric_given op o labels) t.0 t.1 t.2 vs st h s
    plain_given (plain.Variable (variable.LocalGet x)) from to t g vs st h s = from_changes [] (Any t.0 ∷ []) from to (variable_effect (variable.LocalGet x)) (λ vs us st below k h s. get_given st.locals ls x t.0 vs us st below s.locals_typed t.1 k h s) t.2.0 t.2.1 t.2.2 vs st h s
    plain_given (plain.Variable (variable.LocalSet x)) from to t g vs st h s = from_changes (requirement.Value t.0 ∷ []) [] from to (variable_effect (variable.LocalSet x)) (set_given x t.0 t.1) t.2.0 t.2.1 t.2.2 vs st h s
    plain_given (plain.Variable (variable.LocalTee x)) from to t g vs st h s = from_changes (requirement.Value t.0 ∷ []) (Any t.0 ∷ []) from to (variable_effect (variable.LocalTee x)) (tee_given x t.0 t.1) t.2.0 t.2.1 t.2.2 vs st h s
    plain_given (plain.Variable (variable.GlobalGet x)) from to t g vs st h s = from_changes [] (Any t.0.value ∷ []) from to (variable_effect (variable.GlobalGet x)) (λ vs us st below k h s. get_given st.globals (global_types m) x t.0.value vs us st below s.globals_typed (global_at x t.0 t.1) k h s) t.2.0 t.2.1 t.2.2 vs st h s
    plain_given (plain.Variable (variable.GlobalSet x)) from to t g vs st h s = from_changes (requirement.Value t.0.value ∷ []) [] from to (variable_effect (variable.GlobalSet x)) (global_set_given x t.0.value (global_at x t.0 t.1)) t.2.1.0 t.2.1.1 t.2.1.2 vs st h s
    plain_given (plain.Memory (memory.Load op a)) from to t g vs st h s = from_changes (requirement.Constant val_type.I32 (premise.Reaches a.offset (load_width op)) ∷ []) (Any (load_type op) ∷ []) from to (memory_effect (memory.Load op a)) (load_given op a.offset) t.1.1.0 t.1.1.1 t.1.1.2 vs st h s
    plain_given (plain.Memory (memory.Store op a)) from to t g vs st h s = from_changes (requirement.Value (store_type op) ∷ requirement.Constant val_type.I32 (premise.Reaches a.offset (store_width op)) ∷ []) [] from to (memory_effect (memory.Store op a)) (store_given op a.offset) t.1.1.0 t.1.1.1 t.1.1.2 vs st h s
    plain_given (plain.Memory memory.Size) from to t g vs st h s = from_changes [] (Any val_type.I32 ∷ []) from to (memory_effect memory.Size) size_given t.1.0 t.1.1 t.1.2 vs st h s
    plain_given (plain.Memory memory.Grow) from to t g vs st h s = absurd g
