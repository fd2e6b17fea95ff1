-- How many operands an instruction leaves, if it has an effect.
use Rattle.std.proofs.Common.{◌≡◌, ℕ, suc, ◌+◌, ◌-◌, List, [], ◌∷◌, Bool, true, false, Option, Some, None, length, nat_lt, slice_get, slice_set, if◌then◌else◌, refl, arith}
use Rattle.wasm_ast.specs.declared.types.ValType.{ValType}
use Rattle.wasm_ast.specs.declared.types.ValType.TheVariants as val_type
use Rattle.wasm_ast.specs.declared.types.Value.{Value}
use Rattle.wasm_ast.specs.declared.types.Value.TheVariants.{I32, I64}
use Rattle.wasm_ast.specs.declared.numeric.Numeric.{Numeric}
use Rattle.wasm_ast.specs.declared.numeric.Numeric.TheVariants as numeric
use Rattle.wasm_ast.specs.declared.plain.Load.{Load}
use Rattle.wasm_ast.specs.declared.plain.Memory.{Memory}
use Rattle.wasm_ast.specs.declared.plain.Memory.TheVariants as memory
use Rattle.wasm_ast.specs.declared.plain.Variable.{Variable}
use Rattle.wasm_ast.specs.declared.plain.Variable.TheVariants as variable
use Rattle.wasm_ast.specs.declared.plain.Plain.{Plain}
use Rattle.wasm_ast.specs.declared.plain.Plain.TheVariants as plain
use Rattle.wasm_ast.specs.Numeric.{bits_of, conversion_from}
use Rattle.semantics.specs.Operations.{division_traps, division_value}
use Rattle.wasm_ast.specs.Widths.{store_type}
use Rattle.verified.specs.declared.imports.HostCall.{HostCall}
use Rattle.verified.specs.declared.imports.HostCall.TheVariants.{VertexId, Superstep, NumVertices, GetValue, SetValue, NextMessage, MessageValue, NextEdge, EdgeTarget, EdgeValue, Send, Aggregate, Aggregated, VoteToHalt}
use Rattle.verified.specs.Effects.{HostEffect, at_slot, host_effect}
use Rattle.verified.specs.Effects as host
use Rattle.verified.specs.Host.{Host}
use Rattle.verified.specs.Imports.{type_of_call}
use Rattle.verified.specs.Operands.{number, with_number, pop}
use Rattle.verified.specs.Arities.{plain_arity}
use Rattle.verified.specs.Heights.{after}
use Rattle.semantics.specs.Configuration.{State, with_globals, with_locals, Effect, Gives, Traps, Misses}
use Rattle.semantics.specs.Effects.{value, popped, numeric_effect, discard, select, pushed, variable_effect, load_effect, store_effect, memory_effect, effect, lifted}
use Rattle.semantics.specs.Machine as machine

-- there are this many operands after the effect, if it has one
abbrev pub Leaves : ℕ → Effect → Type 0
Leaves k (Gives vs st) = length vs ≡ k
Leaves k Traps = Unit {0}
Leaves k Misses = Unit {0}

leaves_with : (k : ℕ) (o : Option ℕ) (go : ℕ → Effect) → ((n : ℕ) → Leaves k (go n)) → Leaves k (with_number Misses o go)
leaves_with k None go h = tt
leaves_with k (Some n) go h = h n

leaves_popped : (k : ℕ) (t : ValType) (vs : List Value) (go : ℕ → List Value → Effect) → ((n : ℕ) (us : List Value) → length vs ≡ suc (length us) → Leaves k (go n us)) → Leaves k (popped t vs go)
leaves_popped k t [] go h = tt
leaves_popped k t (v ∷ vs) go h = leaves_with k (number t v) (λ n. go n vs) (λ n. h n vs refl)

-- ---- instructions

module _ (st : State) where
  leaves_division : (k : ℕ) (b : Bool) (vs : List Value) → length vs ≡ k → Leaves k (if b then Traps else Gives vs st)
  leaves_division k true vs e = tt
  leaves_division k false vs e = e

  leaves_if : (k : ℕ) (b : Bool) (vs : List Value) (s : State) → length vs ≡ k → Leaves k (if b then Gives vs s else Misses)
  leaves_if k true vs s e = e
  leaves_if k false vs s e = tt

  leaves_numeric : (op : Numeric) (vs : List Value) → Leaves (after (plain_arity (plain.Numeric op)) (length vs)) (numeric_effect op vs st)
  leaves_numeric (numeric.Eqz t) vs = leaves_popped _ t vs _ (λ x us e. omega (arith, e))
  leaves_numeric (numeric.Comparison t op) vs = leaves_popped _ t vs _ (λ y us e. leaves_popped _ t us _ (λ x ws g. omega (arith, e, g)))
  leaves_numeric (numeric.Unary t op) vs = leaves_popped _ t vs _ (λ x us e. omega (arith, e))
  leaves_numeric (numeric.Binary t op) vs = leaves_popped _ t vs _ (λ y us e. leaves_popped _ t us _ (λ x ws g. omega (arith, e, g)))
  leaves_numeric (numeric.Division t op) vs = leaves_popped _ t vs _ (λ y us e. leaves_popped _ t us _ (λ x ws g. leaves_division _ (division_traps (bits_of t) op x y) (value t (division_value (bits_of t) op x y) ∷ ws) (omega (arith, e, g))))
  leaves_numeric (numeric.Conversion op) vs = leaves_popped _ (conversion_from op) vs _ (λ x us e. omega (arith, e))

  leaves_discard : (vs : List Value) → Leaves (after (plain_arity plain.Drop) (length vs)) (discard vs st)
  leaves_discard [] = tt
  leaves_discard (v ∷ vs) = omega arith

  leaves_select : (k n : ℕ) (vs : List Value) → length vs ≡ suc k → Leaves k (select n vs st)
  leaves_select k n [] e = tt
  leaves_select k n (I32 b ∷ []) e = tt
  leaves_select k n (I64 b ∷ []) e = tt
  leaves_select k n (I32 b ∷ I32 a ∷ vs) e = omega (arith, e)
  leaves_select k n (I64 b ∷ I64 a ∷ vs) e = omega (arith, e)
  leaves_select k n (I32 b ∷ I64 a ∷ vs) e = tt
  leaves_select k n (I64 b ∷ I32 a ∷ vs) e = tt

  selects : (n : ℕ) (us vs : List Value) → length vs ≡ suc (length us) → Leaves (after (plain_arity plain.Select) (length vs)) (select n us st)
  selects n [] vs e = tt
  selects n (I32 a ∷ []) vs e = tt
  selects n (I64 a ∷ []) vs e = tt
  selects n (u ∷ w ∷ us) vs e = leaves_select _ n (u ∷ w ∷ us) (omega (arith, e))

  leaves_pushed : (o : Option Value) (vs : List Value) → Leaves (length vs - 0 + 1) (pushed o vs st)
  leaves_pushed None vs = tt
  leaves_pushed (Some v) vs = omega arith

  leaves_variable : (op : Variable) (vs : List Value) → Leaves (after (plain_arity (plain.Variable op)) (length vs)) (variable_effect op vs st)
  leaves_variable (variable.LocalGet x) vs = leaves_pushed (slice_get st.locals x) vs
  leaves_variable (variable.LocalSet x) [] = tt
  leaves_variable (variable.LocalSet x) (v ∷ vs) = leaves_if _ (nat_lt x (length st.locals)) vs (with_locals st (slice_set st.locals x v)) (omega arith)
  leaves_variable (variable.LocalTee x) [] = tt
  leaves_variable (variable.LocalTee x) (v ∷ vs) = leaves_if _ (nat_lt x (length st.locals)) (v ∷ vs) (with_locals st (slice_set st.locals x v)) (omega arith)
  leaves_variable (variable.GlobalGet x) vs = leaves_pushed (slice_get st.globals x) vs
  leaves_variable (variable.GlobalSet x) [] = tt
  leaves_variable (variable.GlobalSet x) (v ∷ vs) = leaves_if _ (nat_lt x (length st.globals)) vs (with_globals st (slice_set st.globals x v)) (omega arith)

  leaves_load : (k : ℕ) (op : Load) (o : Option ℕ) (vs : List Value) → suc (length vs) ≡ k → Leaves k (load_effect op o vs st)
  leaves_load k op None vs e = tt
  leaves_load k op (Some n) vs e = e

  leaves_store : (k : ℕ) (o : Option (List ℕ)) (vs : List Value) → length vs ≡ k → Leaves k (store_effect o vs st)
  leaves_store k None vs e = tt
  leaves_store k (Some bytes) vs e = e

  leaves_memory : (op : Memory) (vs : List Value) → Leaves (after (plain_arity (plain.Memory op)) (length vs)) (memory_effect op vs st)
  leaves_memory (memory.Load op a) vs = leaves_popped _ val_type.I32 vs _ (λ i us e. leaves_load _ op _ us (omega (arith, e)))
  leaves_memory (memory.Store op a) vs = leaves_popped _ (store_type op) vs _ (λ n us e. leaves_popped _ val_type.I32 us _ (λ i ws g. leaves_store _ _ ws (omega (arith, e, g))))
  leaves_memory memory.Size vs = omega arith
  leaves_memory memory.Grow vs = tt

  pub leaves_plain : (p : Plain) (vs : List Value) → Leaves (after (plain_arity p) (length vs)) (effect p vs st)
  leaves_plain plain.Nop vs = omega arith
  leaves_plain plain.Drop vs = leaves_discard vs
  leaves_plain plain.Select vs = leaves_popped _ val_type.I32 vs _ (λ n us e. selects n us vs e)
  leaves_plain (plain.Const v) vs = omega arith
  leaves_plain (plain.Numeric op) vs = leaves_numeric op vs
  leaves_plain (plain.Variable op) vs = leaves_variable op vs
  leaves_plain (plain.Memory op) vs = leaves_memory op vs

-- ---- calls of the host

abbrev HostLeaves : ℕ → HostEffect → Type 0
HostLeaves k (host.Gives vs h) = length vs ≡ k
HostLeaves k host.Traps = Unit {0}
HostLeaves k host.Misses = Unit {0}

host_with : (k : ℕ) (o : Option ℕ) (go : ℕ → HostEffect) → ((n : ℕ) → HostLeaves k (go n)) → HostLeaves k (with_number host.Misses o go)
host_with k None go h = tt
host_with k (Some n) go h = h n

host_popped : (k : ℕ) (t : ValType) (vs : List Value) (go : ℕ → List Value → HostEffect) → ((n : ℕ) (us : List Value) → length vs ≡ suc (length us) → HostLeaves k (go n us)) → HostLeaves k (pop host.Misses t vs go)
host_popped k t [] go h = tt
host_popped k t (v ∷ vs) go h = host_with k (number t v) (λ n. go n vs) (λ n. h n vs refl)

host_slot : (k slot : ℕ) (e : HostEffect) → HostLeaves k e → HostLeaves k (at_slot slot e)
host_slot k slot e h = by_test (nat_lt slot 8)
  where
    by_test : (b : Bool) → HostLeaves k (if b then e else host.Traps)
    by_test true = h
    by_test false = tt

-- the operands after a call with arguments and results of its type
abbrev after_call : HostCall → ℕ → ℕ
after_call c n = n - length (type_of_call c).parameters + length (type_of_call c).results

host_leaves : (c : HostCall) (vs : List Value) (h : Host) → HostLeaves (after_call c (length vs)) (host_effect c vs h)
host_leaves VertexId vs h = omega arith
host_leaves Superstep vs h = omega arith
host_leaves NumVertices vs h = omega arith
host_leaves GetValue vs h = omega arith
host_leaves SetValue vs h = host_popped _ val_type.I64 vs _ (λ n us e. omega (arith, e))
host_leaves NextMessage vs h = omega arith
host_leaves MessageValue vs h = omega arith
host_leaves NextEdge vs h = omega arith
host_leaves EdgeTarget vs h = omega arith
host_leaves EdgeValue vs h = omega arith
host_leaves Send vs h = host_popped _ val_type.I64 vs _ (λ n us e. host_popped _ val_type.I64 us _ (λ k ws g. omega (arith, e, g)))
host_leaves Aggregate vs h = host_popped _ val_type.I64 vs _ (λ n us e. host_popped _ val_type.I32 us _ (λ slot ws g. host_slot _ slot _ (omega (arith, e, g))))
host_leaves Aggregated vs h = host_popped _ val_type.I32 vs _ (λ slot us e. host_slot _ slot _ (omega (arith, e)))
host_leaves VoteToHalt vs h = omega arith

leaves_lifted : (k : ℕ) (st : State) (e : HostEffect) → HostLeaves k e → Leaves k (lifted st e)
leaves_lifted k st (host.Gives vs h) e = e
leaves_lifted k st host.Traps e = tt
leaves_lifted k st host.Misses e = tt

pub leaves_call : (c : HostCall) (vs : List Value) (st : State) → Leaves (length vs - length (type_of_call c).parameters + length (type_of_call c).results) (machine.host_effect (Some c) vs st)
leaves_call c vs st = leaves_lifted _ st (host_effect c vs st.host) (host_leaves c vs st.host)
