-- Functions by number, and labels by place.
use Rattle.std.proofs.Common.{◌≡◌, ℕ, zero, suc, ◌-◌, List, [], ◌∷◌, ◌++◌, map, length, slice_get, option_map, Option, Some, None, refl, sym, ap, ◌∙◌, subst, arith}
use Rattle.std.proofs.lemmas.Option.{slice_get-map}
use Rattle.std.specs.List.{AllByRecursion}
use Rattle.wasm_ast.specs.declared.module.Function.{Function}
use Rattle.wasm_ast.specs.declared.module.Import.{Import}
use Rattle.wasm_ast.specs.declared.module.ImportDescription.{ImportDescription}
use Rattle.wasm_ast.specs.declared.module.ImportDescription.TheVariants as import
use Rattle.wasm_ast.specs.declared.module.Module.{Module}
use Rattle.verified.specs.declared.imports.HostCall.{HostCall}
use Rattle.semantics.specs.Machine.{Callee, host, defined, function_import, functions_of, imported_functions, label_of}
use Rattle.interp.specs.inside.Meaning.{AreImports, host_callee}

nth_host : (calls : List HostCall) (fs : List Callee) (n : ℕ) (c : HostCall) → slice_get calls n ≡ Some c → slice_get (map host_callee calls ++ fs) n ≡ Some (host_callee c)
nth_host [] fs n c e = absurd cc
nth_host (d ∷ calls) fs zero c e = let h : d ≡ c = cc in ap (λ (x : HostCall). Some (host_callee x)) h
nth_host (d ∷ calls) fs (suc n) c e = nth_host calls fs n c e

nth_past : (calls : List HostCall) (fs : List Callee) (n : ℕ) → slice_get calls n ≡ None → slice_get (map host_callee calls ++ fs) n ≡ slice_get fs (n - length calls)
nth_past [] fs n e = let h : n - 0 ≡ n = omega arith in ap (λ (k : ℕ). slice_get fs k) (sym h)
nth_past (d ∷ calls) fs zero e = absurd cc
nth_past (d ∷ calls) fs (suc n) e =
    let h : suc n - length (d ∷ calls) ≡ n - length calls = omega arith in
    nth_past calls fs n e ∙ ap (λ (k : ℕ). slice_get fs k) (sym h)

module _ (m : Module) (calls : List HostCall) (imports : AreImports calls m) (n : ℕ) where
  functions : slice_get (functions_of m) n ≡ slice_get (map host_callee calls ++ map defined m.functions) n
  functions = ap (λ (fs : List Callee). slice_get (fs ++ map defined m.functions) n) imports

  pub callee_host : (c : HostCall) → slice_get calls n ≡ Some c → slice_get (functions_of m) n ≡ Some (host (Some c))
  callee_host c e = functions ∙ nth_host calls (map defined m.functions) n c e

  pub callee_defined : slice_get calls n ≡ None → slice_get (functions_of m) n ≡ option_map defined (slice_get m.functions (n - length calls))
  callee_defined e = functions ∙ nth_past calls (map defined m.functions) n e ∙ slice_get-map defined m.functions (n - length calls)

  -- what is none of the host is not
  pub no_host : (c : HostCall) → slice_get calls n ≡ None → Some (host (Some c)) ≡ slice_get (functions_of m) n → ⊥
  no_host c e g = none_of (slice_get m.functions (n - length calls)) (g ∙ callee_defined e)
    where
      none_of : (o : Option Function) → Some (host (Some c)) ≡ option_map defined o → ⊥
      none_of None h = absurd cc
      none_of (Some f) h = absurd cc

pub label_past : (ls : List ℕ) (n other : ℕ) → slice_get ls n ≡ None → label_of ls n other ≡ other
label_past [] n other e = refl
label_past (l ∷ ls) zero other e = absurd cc
label_past (l ∷ ls) (suc n) other e = label_past ls n other e

-- ---- what holds of all functions that the module defines

module _ (P : Function → Type 0) where
  one_of : (fs : List Function) (n : ℕ) (f : Function) → AllByRecursion P fs → slice_get (map defined fs) n ≡ Some (defined f) → P f
  one_of [] n f a e = absurd cc
  one_of (g ∷ fs) zero f a e = let h : g ≡ f = cc in subst P h a.0
  one_of (g ∷ fs) (suc n) f a e = one_of fs n f a.1 e

  -- one import more, whatever it brings in
  past_import : (i : Import) (d : ImportDescription) (cs others : List Callee) (n : ℕ) (f : Function) → ((k : ℕ) → slice_get (cs ++ others) k ≡ Some (defined f) → P f) → slice_get (function_import i d cs ++ others) n ≡ Some (defined f) → P f
  past_import i (import.Function t) cs others zero f go e = absurd cc
  past_import i (import.Function t) cs others (suc n) f go e = go n e
  past_import i (import.Table t) cs others n f go e = go n e
  past_import i (import.Memory t) cs others n f go e = go n e
  past_import i (import.Global t) cs others n f go e = go n e

  past_imports : (is : List Import) (fs : List Function) (n : ℕ) (f : Function) → AllByRecursion P fs → slice_get (imported_functions is ++ map defined fs) n ≡ Some (defined f) → P f
  past_imports [] fs n f a e = one_of fs n f a e
  past_imports (i ∷ is) fs n f a e = past_import i i.description (imported_functions is) (map defined fs) n f (λ k g. past_imports is fs k f a g) e

pub of_defined : (m : Module) (P : Function → Type 0) → AllByRecursion P m.functions → (n : ℕ) (f : Function) → slice_get (functions_of m) n ≡ Some (defined f) → P f
of_defined m P a n f e = past_imports P m.imports m.functions n f a e
