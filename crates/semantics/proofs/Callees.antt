-- Functions by number: the machine, the typing and the sizes mean one function by one number.
use Rattle.std.proofs.Common.{◌≡◌, ℕ, zero, suc, ◌+◌, ◌-◌, ◌≤◌, ◌⊎◌, inl, inr, Bool, true, cond, List, [], ◌∷◌, ◌++◌, map, slice_get, Option, Some, None, option_map, if◌then◌else◌, refl, sym, ap, ◌∙◌, arith}
use Rattle.std.specs.Prelude.{filter}
use Rattle.std.specs.Option.{option_and_then}
use Rattle.std.specs.List.{AllByRecursion}
use Rattle.std.proofs.lemmas.Bool.{le-ltb}
use Rattle.std.proofs.lemmas.Option.{slice_get-map}
use Rattle.std.proofs.lemmas.List.Sums.{sum_by-cons}
use Rattle.wasm_ast.specs.declared.types.FuncType.{FuncType}
use Rattle.wasm_ast.specs.declared.module.ImportDescription.{ImportDescription}
use Rattle.wasm_ast.specs.declared.module.Import.{Import}
use Rattle.wasm_ast.specs.declared.module.Function.{Function}
use Rattle.wasm_ast.specs.declared.module.Module.{Module}
use Rattle.wasm_ast.specs.Limits.{is_function, is_function_description, imported_functions}
use Rattle.verified.specs.declared.imports.HostCall.{HostCall}
use Rattle.verified.specs.declared.imports.HostCall.TheVariants.{VertexId, Superstep, NumVertices, GetValue, SetValue, NextMessage, MessageValue, NextEdge, EdgeTarget, EdgeValue, Send, Aggregate, Aggregated, VoteToHalt}
use Rattle.verified.specs.Imports.{module_name, name_of, type_of_call, call_named}
use Rattle.verified.specs.Spaces.{function_type, spaces_of, imported}
use Rattle.verified.specs.Spaces as spaces
use Rattle.verified.specs.Calls.{body_of}
use Rattle.verified.specs.Hosts.{IsHostImport, host_call_at}
use Rattle.semantics.specs.Machine.{Callee, host, defined, functions_of}
use Rattle.semantics.specs.Machine as machine
use Rattle.semantics.proofs.Values.{some_is, none_some}

-- the number is that of a function of the host, of this type
pub record IsHostFunction (m : Module) (f : ℕ) (t : FuncType) : Type 0 where
  pub call : HostCall
  pub called : slice_get (functions_of m) f ≡ Some (host (Some call))
  pub named : host_call_at m f ≡ Some call
  pub typed : t ≡ type_of_call call

-- it is that of a function that the module defines, of this type
pub record IsDefinedFunction (m : Module) (f : ℕ) (t : FuncType) : Type 0 where
  pub function : Function
  pub called : slice_get (functions_of m) f ≡ Some (defined function)
  pub unnamed : host_call_at m f ≡ None
  pub typed : slice_get m.types function.type_number ≡ Some t
  pub in_module : slice_get m.functions (f - imported_functions m.imports) ≡ Some function
  pub has_body : body_of m f ≡ Some function.body

named_call : (call : HostCall) → call_named module_name (name_of call) ≡ Some call
named_call VertexId = refl
named_call Superstep = refl
named_call NumVertices = refl
named_call GetValue = refl
named_call SetValue = refl
named_call NextMessage = refl
named_call MessageValue = refl
named_call NextEdge = refl
named_call EdgeTarget = refl
named_call EdgeValue = refl
named_call Send = refl
named_call Aggregate = refl
named_call Aggregated = refl
named_call VoteToHalt = refl

abbrev import_named : Import → Option HostCall
import_named i = call_named i.«module» i.name

module _ (m : Module) where
  named_import : (i : Import) (h : IsHostImport m i) → import_named i ≡ Some h.host_call
  named_import i h =
      ap (λ (n : List ℕ). call_named n i.name) h.brings_in.of_module ∙ ap (λ (n : List ℕ). call_named module_name n) h.brings_in.of_name ∙ named_call h.host_call

  -- ---- the first import of a list

  machine_first : (i : Import) (is : List Import) (h : IsHostImport m i) → machine.imported_functions (i ∷ is) ≡ host (Some h.host_call) ∷ machine.imported_functions is
  machine_first i is h =
      ap (λ (d : ImportDescription). machine.function_import i d (machine.imported_functions is)) h.describes ∙ ap (λ (o : Option HostCall). host o ∷ machine.imported_functions is) (named_import i h)

  is_one : (i : Import) → IsHostImport m i → is_function i ≡ true
  is_one i h = ap (λ (d : ImportDescription). is_function_description d) h.describes

  filter_first : (i : Import) (is : List Import) → IsHostImport m i → filter is_function (i ∷ is) ≡ i ∷ filter is_function is
  filter_first i is h = ap (λ (b : Bool). cond b (i ∷ filter is_function is) (filter is_function is)) (is_one i h)

  count_first : (i : Import) (is : List Import) → IsHostImport m i → imported_functions (i ∷ is) ≡ 1 + imported_functions is
  count_first i is h =
      sum_by-cons (λ (x : Import). cond (is_function x) 1 0) i is ∙ ap (λ (b : Bool). cond b 1 0 + imported_functions is) (is_one i h)

  number_first : (i : Import) (is : List Import) (h : IsHostImport m i) → imported spaces.function_import (i ∷ is) ≡ h.type_number ∷ imported spaces.function_import is
  number_first i is h =
      ap (λ (d : ImportDescription). imported spaces.function_import (record i { description = d } ∷ is)) h.describes

  -- ---- a number among the imports and what comes after them

  pub record HostAt (is : List Import) (n number : ℕ) (others : List Callee) : Type 0 where
    pub call : HostCall
    pub called : slice_get (machine.imported_functions is ++ others) n ≡ Some (host (Some call))
    pub named : option_and_then import_named (slice_get (filter is_function is) n) ≡ Some call
    pub typed : slice_get m.types number ≡ Some (type_of_call call)

  pub record PastAt (is : List Import) (n number : ℕ) (others : List Callee) (numbers : List ℕ) : Type 0 where
    pub past : imported_functions is ≤ n
    pub called : slice_get (machine.imported_functions is ++ others) n ≡ slice_get others (n - imported_functions is)
    pub unnamed : option_and_then import_named (slice_get (filter is_function is) n) ≡ None
    pub numbered : slice_get numbers (n - imported_functions is) ≡ Some number

  here_at : (i : Import) (is : List Import) (number : ℕ) (others : List Callee) (numbers : List ℕ) → IsHostImport m i → slice_get (imported spaces.function_import (i ∷ is) ++ numbers) 0 ≡ Some number → HostAt (i ∷ is) 0 number others
  here_at i is number others numbers h e = record {
    call = h.host_call;
    called = ap (λ (cs : List Callee). slice_get (cs ++ others) 0) (machine_first i is h);
    named = ap (λ (js : List Import). option_and_then import_named (slice_get js 0)) (filter_first i is h) ∙ named_import i h;
    typed = let same : h.type_number ≡ number = some_is h.type_number number (sym (ap (λ (ns : List ℕ). slice_get (ns ++ numbers) 0) (number_first i is h)) ∙ e) in
        ap (λ (n : ℕ). slice_get m.types n) (sym same) ∙ h.typed ∙ ap (λ (t : FuncType). Some t) h.brings_in.of_type;
  }

  host_later : (i : Import) (is : List Import) (n number : ℕ) (others : List Callee) → IsHostImport m i → HostAt is n number others → HostAt (i ∷ is) (suc n) number others
  host_later i is n number others h a = record {
    call = a.call;
    called = ap (λ (cs : List Callee). slice_get (cs ++ others) (suc n)) (machine_first i is h) ∙ a.called;
    named = ap (λ (js : List Import). option_and_then import_named (slice_get js (suc n))) (filter_first i is h) ∙ a.named;
    typed = a.typed;
  }

  past_later : (i : Import) (is : List Import) (n number : ℕ) (others : List Callee) (numbers : List ℕ) → IsHostImport m i → PastAt is n number others numbers → PastAt (i ∷ is) (suc n) number others numbers
  past_later i is n number others numbers h a =
      let count = count_first i is h in
      let less : suc n - imported_functions (i ∷ is) ≡ n - imported_functions is = omega (arith, count) in
      record {
        past = omega (arith, count, a.past);
        called = ap (λ (cs : List Callee). slice_get (cs ++ others) (suc n)) (machine_first i is h) ∙ a.called ∙ ap (λ (k : ℕ). slice_get others k) (sym less);
        unnamed = ap (λ (js : List Import). option_and_then import_named (slice_get js (suc n))) (filter_first i is h) ∙ a.unnamed;
        numbered = ap (λ (k : ℕ). slice_get numbers k) less ∙ a.numbered;
      }

  no_imports : (n number : ℕ) (others : List Callee) (numbers : List ℕ) → slice_get numbers n ≡ Some number → PastAt [] n number others numbers
  no_imports n number others numbers e =
      let same : n - imported_functions [] ≡ n = omega arith in
      record { past = omega arith; called = ap (λ (k : ℕ). slice_get others k) (sym same); unnamed = refl; numbered = ap (λ (k : ℕ). slice_get numbers k) same ∙ e }

  among : (is : List Import) → AllByRecursion (IsHostImport m) is → (n number : ℕ) (others : List Callee) (numbers : List ℕ) → slice_get (imported spaces.function_import is ++ numbers) n ≡ Some number → HostAt is n number others ⊎ PastAt is n number others numbers
  among [] h n number others numbers e = inr (no_imports n number others numbers e)
  among (i ∷ is) h zero number others numbers e = inl (here_at i is number others numbers h.0 e)
  among (i ∷ is) h (suc n) number others numbers e =
      elim (among is h.1 n number others numbers (sym (ap (λ (ns : List ℕ). slice_get (ns ++ numbers) (suc n)) (number_first i is h.0)) ∙ e)) [
        | inl a ↦ inl (host_later i is n number others h.0 a)
        | inr a ↦ inr (past_later i is n number others numbers h.0 a)
      ]

  -- ---- functions by number

  mapped_at : {A B : Type 0} (f : A → B) (xs : List A) (k : ℕ) (b : B) → slice_get (map f xs) k ≡ Some b → (a : A) × (slice_get xs k ≡ Some a) × (f a ≡ b)
  mapped_at f [] k b e = absurd (none_some b e)
  mapped_at f (x ∷ xs) zero b e = (x, refl, some_is (f x) b e)
  mapped_at f (x ∷ xs) (suc k) b e = mapped_at f xs k b e

  is_host : (f number : ℕ) (t : FuncType) → slice_get m.types number ≡ Some t → HostAt m.imports f number (map defined m.functions) → IsHostFunction m f t
  is_host f number t e a = record { call = a.call; called = a.called; named = a.named; typed = some_is t (type_of_call a.call) (sym e ∙ a.typed) }

  body_past : (f : ℕ) (g : Function) → imported_functions m.imports ≤ f → slice_get m.functions (f - imported_functions m.imports) ≡ Some g → body_of m f ≡ Some g.body
  body_past f g h e =
      ap (λ (b : Bool). if b then None else option_map (λ (x : Function). x.body) (slice_get m.functions (f - imported_functions m.imports))) (le-ltb f (imported_functions m.imports) h)
      ∙ ap (λ (o : Option Function). option_map (λ (x : Function). x.body) o) e

  pub is_defined : (f number : ℕ) (t : FuncType) → slice_get m.types number ≡ Some t → PastAt m.imports f number (map defined m.functions) (map (λ (g : Function). g.type_number) m.functions) → IsDefinedFunction m f t
  is_defined f number t e a =
      let g = mapped_at (λ (g : Function). g.type_number) m.functions (f - imported_functions m.imports) number a.numbered in
      record {
        function = g.0;
        called = a.called ∙ slice_get-map defined m.functions (f - imported_functions m.imports) ∙ ap (λ (o : Option Function). option_map defined o) g.1;
        unnamed = a.unnamed;
        typed = ap (λ (n : ℕ). slice_get m.types n) g.2 ∙ e;
        in_module = g.1;
        has_body = body_past f g.0 a.past g.1;
      }

  numbered : (o : Option ℕ) (t : FuncType) → option_and_then (λ n. slice_get m.types n) o ≡ Some t → (n : ℕ) × (o ≡ Some n) × (slice_get m.types n ≡ Some t)
  numbered None t e = absurd (none_some t e)
  numbered (Some n) t e = (n, refl, e)

  -- each function that has a type is one or the other
  pub function_at : AllByRecursion (IsHostImport m) m.imports → (f : ℕ) (t : FuncType) → function_type (spaces_of m) f ≡ Some t → IsHostFunction m f t ⊎ IsDefinedFunction m f t
  function_at h f t e =
      let n = numbered (slice_get (spaces_of m).functions f) t e in
      elim (among m.imports h f n.0 (map defined m.functions) (map (λ (g : Function). g.type_number) m.functions) n.1) [
        | inl a ↦ inl (is_host f n.0 t n.2 a)
        | inr a ↦ inr (is_defined f n.0 t n.2 a)
      ]

  -- ---- a number past the imports

  pub past_at : (is : List Import) → AllByRecursion (IsHostImport m) is → (n number : ℕ) (others : List Callee) (numbers : List ℕ) → imported_functions is ≤ n → slice_get numbers (n - imported_functions is) ≡ Some number → PastAt is n number others numbers
  past_at [] h n number others numbers p e =
      let same : n - imported_functions [] ≡ n = omega arith in
      no_imports n number others numbers (sym (ap (λ (k : ℕ). slice_get numbers k) same) ∙ e)
  past_at (i ∷ is) h zero number others numbers p e = absurd (omega (arith, p, count_first i is h.0))
  past_at (i ∷ is) h (suc n) number others numbers p e =
      let count = count_first i is h.0 in
      let less : suc n - imported_functions (i ∷ is) ≡ n - imported_functions is = omega (arith, count) in
      past_later i is n number others numbers h.0 (past_at is h.1 n number others numbers (omega (arith, p, count)) (sym (ap (λ (k : ℕ). slice_get numbers k) less) ∙ e))
