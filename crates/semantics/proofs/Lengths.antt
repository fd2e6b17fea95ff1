-- The number of operands after an instruction, by its typing.
use Rattle.std.proofs.Common.{◌≡◌, ℕ, zero, suc, ◌+◌, ◌-◌, ◌≤◌, List, [], ◌∷◌, length, map, slice_get, Option, Some, None, option_map, refl, ap, ◌∙◌, subst, arith}
use Rattle.std.specs.Prelude.{reverse}
use Rattle.std.specs.Option.{option_and_then}
use Rattle.std.specs.List.{AllByRecursion}
use Rattle.std.proofs.lemmas.Option.{slice_get-map}
use Rattle.std.proofs.lemmas.List.{length-append, length-map, length-reverse}
use Rattle.wasm_ast.specs.declared.types.ValType.{ValType}
use Rattle.wasm_ast.specs.declared.types.ValType.TheVariants as val_type
use Rattle.wasm_ast.specs.declared.types.FuncType.{FuncType}
use Rattle.wasm_ast.specs.declared.numeric.Numeric.{Numeric}
use Rattle.wasm_ast.specs.declared.numeric.Numeric.TheVariants as numeric
use Rattle.wasm_ast.specs.declared.plain.Memory.TheVariants as memory
use Rattle.wasm_ast.specs.declared.plain.Variable.TheVariants as variable
use Rattle.wasm_ast.specs.declared.plain.Plain.{Plain}
use Rattle.wasm_ast.specs.declared.plain.Plain.TheVariants as plain
use Rattle.wasm_ast.specs.declared.module.Module.{Module}
use Rattle.wasm_ast.specs.NumericTypes.{numeric_takes, numeric_gives}
use Rattle.wasm_ast.specs.Widths.{load_width, load_type, store_width, store_type}
use Rattle.wasm_ast.specs.Code.{Code}
use Rattle.wasm_ast.specs.Code as code
use Rattle.verified.specs.declared.imports.HostCall.{HostCall}
use Rattle.verified.specs.declared.imports.HostCall.TheVariants.{VertexId, Superstep, NumVertices, GetValue, SetValue, NextMessage, MessageValue, NextEdge, EdgeTarget, EdgeValue, Send, Aggregate, Aggregated, VoteToHalt}
use Rattle.verified.specs.Imports.{type_of_call}
use Rattle.verified.specs.declared.requirements.Premise.TheVariants as premise
use Rattle.verified.specs.declared.requirements.Requirement.{Requirement}
use Rattle.verified.specs.declared.requirements.Requirement.TheVariants as requirement
use Rattle.verified.specs.Kinds.{Kind, Any, kinds, requirements}
use Rattle.verified.specs.Memory.{memory_bytes}
use Rattle.verified.specs.Known.{Changes, PlainKnown, numeric_requirements, constant_kind, call_requirements}
use Rattle.verified.specs.Spaces.{first_type, function_type, spaces_of}
use Rattle.verified.specs.Modules.{TypeHolds}
use Rattle.verified.specs.declared.arity.Arity.{Arity}
use Rattle.verified.specs.Arities.{plain_arity, result_count, type_arity, known_arity, call_arity}
use Rattle.verified.specs.Heights.{peak}
use Rattle.semantics.proofs.Values.{meet_length, none_some, some_is}
use Rattle.semantics.proofs.Plains.{context}

pub kinds_count : (t : Option ValType) → length (kinds t) ≡ result_count t
kinds_count None = refl
kinds_count (Some t) = refl

pub requirements_count : (t : Option ValType) → length (requirements t) ≡ result_count t
requirements_count None = refl
requirements_count (Some t) = refl

-- ---- functions

pub all_at : {A : Type 0} (P : A → Type 0) (xs : List A) (k : ℕ) (x : A) → AllByRecursion P xs → slice_get xs k ≡ Some x → P x
all_at P [] k x a e = absurd (none_some x e)
all_at P (y ∷ xs) zero x a e = subst P (some_is y x e) a.0
all_at P (y ∷ xs) (suc k) x a e = all_at P xs k x a.1 e

one_result : (ts : List ValType) → length ts ≤ 1 → length ts ≡ result_count (first_type ts)
one_result [] h = refl
one_result (t ∷ []) h = refl
one_result (t ∷ u ∷ ts) h = absurd (omega arith)

module _ (m : Module) (f : ℕ) (t : FuncType) where
  typed_number : (o : Option ℕ) → option_and_then (λ n. slice_get m.types n) o ≡ Some t → (known_arity (option_map (λ n. type_arity (slice_get m.types n)) o) ≡ type_arity (Some t)) × ((P : FuncType → Type 0) → AllByRecursion P m.types → P t)
  typed_number None e = absurd (none_some t e)
  typed_number (Some n) e = (ap (λ (x : Option FuncType). type_arity x) e, λ P a. all_at P m.types n t a e)

  -- what a call takes and gives, by the function's type
  pub call_counts : function_type (spaces_of m) f ≡ Some t → AllByRecursion TypeHolds m.types → (call_arity m f).takes ≡ length t.parameters
  call_counts e a =
      let k = slice_get-map (λ n. type_arity (slice_get m.types n)) (spaces_of m).functions f in
      ap (λ (x : Arity). x.takes) (ap (λ (x : Option Arity). known_arity x) k ∙ (typed_number (slice_get (spaces_of m).functions f) e).0)

  pub call_results : function_type (spaces_of m) f ≡ Some t → AllByRecursion TypeHolds m.types → (call_arity m f).gives ≡ result_count (first_type t.results)
  call_results e a =
      let k = slice_get-map (λ n. type_arity (slice_get m.types n)) (spaces_of m).functions f in
      let n = typed_number (slice_get (spaces_of m).functions f) e in
      ap (λ (x : Arity). x.gives) (ap (λ (x : Option Arity). known_arity x) k ∙ n.0) ∙ one_result t.results (n.1 TypeHolds a)

-- ---- heights

pub low_from : (m : Module) (hs : ℕ → ℕ) (is : Code) (h : ℕ) → h ≤ peak m hs is h
low_from m hs code.end h = omega arith
low_from m hs (code.plain p rest) h = omega arith
low_from m hs (code.branch b rest) h = omega arith
low_from m hs (code.call f rest) h = omega arith
low_from m hs (code.call_indirect t rest) h = omega arith
low_from m hs (code.unreachable rest) h = omega arith
low_from m hs (code.block t body rest) h = omega arith
low_from m hs (code.loop t body rest) h = omega arith
low_from m hs (code.choice t body other rest) h = omega arith

module _ (m : Module) (ls : List ValType) (o : Option ValType) (labels : List (Option ValType)) where
  pub changes_length : (ws : List Requirement) (gs from to : List Kind) → Changes (context m ls o labels) ws gs from to → length to ≡ length from - length ws + length gs
  changes_length ws gs from to c =
      let a = meet_length (memory_bytes m) ws from c.0 c.1 in
      let b = ap (λ (ks : List Kind). length ks) c.2 in
      let d = length-append gs c.0 in
      omega (arith, a, b, d)

  pub numeric_length : (op : Numeric) → length (numeric_requirements (context m ls o labels) op) ≡ length (numeric_takes op)
  numeric_length (numeric.Eqz t) = refl
  numeric_length (numeric.Comparison t op) = refl
  numeric_length (numeric.Unary t op) = refl
  numeric_length (numeric.Binary t op) = refl
  numeric_length (numeric.Division t op) = refl
  numeric_length (numeric.Conversion op) = refl

  pub plain_length : (p : Plain) (from to : List Kind) → PlainKnown (context m ls o labels) p from to → length to ≡ length from - (plain_arity p).takes + (plain_arity p).gives
  plain_length plain.Nop from to t = changes_length [] [] from to t
  plain_length plain.Drop from to t = changes_length (requirement.Value t.0 ∷ []) [] from to t.1
  plain_length plain.Select from to t = changes_length (requirement.Value val_type.I32 ∷ requirement.Value t.0 ∷ requirement.Value t.0 ∷ []) (Any t.0 ∷ []) from to t.1
  plain_length (plain.Const v) from to t = changes_length [] (constant_kind v ∷ []) from to t
  plain_length (plain.Numeric op) from to t = let a = changes_length (numeric_requirements (context m ls o labels) op) (Any (numeric_gives op) ∷ []) from to t in let b = numeric_length op in omega (arith, a, b)
  plain_length (plain.Variable (variable.LocalGet x)) from to t = changes_length [] (Any t.0 ∷ []) from to t.2
  plain_length (plain.Variable (variable.LocalSet x)) from to t = changes_length (requirement.Value t.0 ∷ []) [] from to t.2
  plain_length (plain.Variable (variable.LocalTee x)) from to t = changes_length (requirement.Value t.0 ∷ []) (Any t.0 ∷ []) from to t.2
  plain_length (plain.Variable (variable.GlobalGet x)) from to t = changes_length [] (Any t.0.value ∷ []) from to t.2
  plain_length (plain.Variable (variable.GlobalSet x)) from to t = changes_length (requirement.Value t.0.value ∷ []) [] from to t.2.1
  plain_length (plain.Memory (memory.Load op a)) from to t = changes_length (requirement.Constant val_type.I32 (premise.Reaches a.offset (load_width op)) ∷ []) (Any (load_type op) ∷ []) from to t.1.1
  plain_length (plain.Memory (memory.Store op a)) from to t = changes_length (requirement.Value (store_type op) ∷ requirement.Constant val_type.I32 (premise.Reaches a.offset (store_width op)) ∷ []) [] from to t.1.1
  plain_length (plain.Memory memory.Size) from to t = changes_length [] (Any val_type.I32 ∷ []) from to t.1
  plain_length (plain.Memory memory.Grow) from to t = changes_length (requirement.Value val_type.I32 ∷ []) (Any val_type.I32 ∷ []) from to t.1

  values_length : (ts : List ValType) → length (map requirement.Value (reverse ts)) ≡ length ts
  values_length ts = length-map (reverse ts) requirement.Value ∙ length-reverse ts

  pub defined_length : (ts : List ValType) → length (call_requirements (context m ls o labels) None ts) ≡ length ts
  defined_length ts = values_length ts

  pub host_length : (call : HostCall) → length (call_requirements (context m ls o labels) (Some call) (type_of_call call).parameters) ≡ length (type_of_call call).parameters
  host_length VertexId = refl
  host_length Superstep = refl
  host_length NumVertices = refl
  host_length GetValue = refl
  host_length SetValue = refl
  host_length NextMessage = refl
  host_length MessageValue = refl
  host_length NextEdge = refl
  host_length EdgeTarget = refl
  host_length EdgeValue = refl
  host_length Send = refl
  host_length Aggregate = refl
  host_length Aggregated = refl
  host_length VoteToHalt = refl
