-- The function `compute` among the exports, whose names are distinct.
use Rattle.std.proofs.Common.{◌≡◌, ◌≢◌, ℕ, zero, suc, ◌-◌, ◌<◌, List, [], ◌∷◌, length, map, get_or, Bool, true, false, Option, Some, None, slice_get, if◌then◌else◌, refl, sym, ap, ◌∙◌, subst, arith}
use Rattle.std.specs.Prelude.{Contains, find, codes}
use Rattle.std.specs.Option.{option_and_then}
use Rattle.std.specs.List.{AllByRecursion}
use Rattle.std.proofs.lemmas.Slice.Eq.{bytes_eq-Decides}
use Rattle.wasm_ast.specs.declared.module.ExportDescription.{ExportDescription}
use Rattle.wasm_ast.specs.declared.module.ExportDescription.TheVariants as export
use Rattle.wasm_ast.specs.declared.module.Export.{Export}
use Rattle.wasm_ast.specs.declared.module.Function.{Function}
use Rattle.wasm_ast.specs.declared.module.Module.{Module}
use Rattle.wasm_ast.specs.Limits.{imported_functions}
use Rattle.verified.specs.Modules.{name_of_export, AreDistinct}
use Rattle.verified.specs.Compute.{has_its_name, exported_function, exported_compute, OfPlainType, IsDefinedPlain, IsComputeNumber}
use Rattle.verified.specs.Profile.{HasCompute, compute_export, plain_type}

-- ---- what is found is there

after_first : (x : Export) (xs : List Export) (e : Export) → Contains xs e → Contains (x ∷ xs) e
after_first x xs e c = (suc c.0, (let h = c.1 in omega arith), c.2)

first_is : (x : Export) (xs : List Export) (e : Export) → x ≡ e → Contains (x ∷ xs) e
first_is x xs e same = (0, omega arith, same)

found_there : (es : List Export) (e : Export) → find has_its_name es ≡ Some e → Contains es e × (has_its_name e ≡ true)
found_there [] e f = absurd cc
found_there (x ∷ xs) e f = by_test (λ g. found_there xs e g) (has_its_name x) refl f
  where
    by_test : (find has_its_name xs ≡ Some e → Contains xs e × (has_its_name e ≡ true)) → (b : Bool) → has_its_name x ≡ b → (if b then Some x else find has_its_name xs) ≡ Some e → Contains (x ∷ xs) e × (has_its_name e ≡ true)
    by_test later true t g = let same : x ≡ e = cc in (first_is x xs e same, ap has_its_name (sym same) ∙ t)
    by_test later false t g = let h = later g in (after_first x xs e h.0, h.1)

-- ---- what is there is found

holds_there : (P : List ℕ → Type 0) (es : List Export) (k : ℕ) (e : Export) → AllByRecursion P (map name_of_export es) → k < length es → get_or es k e ≡ e → P e.name
holds_there P [] k e a h g = absurd (omega arith)
holds_there P (x ∷ xs) zero e a h g = subst (λ (y : Export). P y.name) g a.0
holds_there P (x ∷ xs) (suc k) e a h g = holds_there P xs k e a.1 (omega arith) g

no_name : (x : Export) → codes "compute" ≢ x.name → has_its_name x ≡ false
no_name x n = by_test (has_its_name x) refl
  where
    by_test : (b : Bool) → has_its_name x ≡ b → b ≡ false
    by_test true t = absurd (n (sym ((bytes_eq-Decides x.name (codes "compute")).0 t)))
    by_test false t = refl

has_name : (n : ℕ) → has_its_name (compute_export n) ≡ true
has_name n = refl

there_at : (es : List Export) (n k : ℕ) → AreDistinct (map name_of_export es) → k < length es → get_or es k (compute_export n) ≡ compute_export n → find has_its_name es ≡ Some (compute_export n)
there_at [] n k d h g = absurd (omega arith)
there_at (x ∷ xs) n zero d h g =
    ap (λ b. if b then Some x else find has_its_name xs) (ap has_its_name g ∙ has_name n) ∙ ap (λ (y : Export). Some y) g
there_at (x ∷ xs) n (suc k) d h g =
    ap (λ b. if b then Some x else find has_its_name xs) (no_name x (holds_there (λ y. y ≢ x.name) xs k (compute_export n) d.0 (omega arith) g))
    ∙ there_at xs n k d.1 (omega arith) g

there_found : (es : List Export) (n : ℕ) → AreDistinct (map name_of_export es) → Contains es (compute_export n) → find has_its_name es ≡ Some (compute_export n)
there_found es n d c = there_at es n c.0 d c.1 c.2

-- ---- the number of `compute`

abbrev export_of : List ℕ → ExportDescription → Export
export_of name description = record { name = name; description = description }

named : (e : Export) (n : ℕ) → has_its_name e ≡ true → exported_function e.description ≡ Some n → e ≡ compute_export n
named e n t f =
    let name : e.name ≡ codes "compute" = (bytes_eq-Decides e.name (codes "compute")).0 t in
    let described = function_only e.description n f in
    ap (λ a. export_of a e.description) name ∙ ap (export_of (codes "compute")) described
  where
    function_only : (d : ExportDescription) (n : ℕ) → exported_function d ≡ Some n → d ≡ export.Function n
    function_only (export.Function f) n e = cc
    function_only (export.Table t) n e = absurd cc
    function_only (export.Memory t) n e = absurd cc
    function_only (export.Global t) n e = absurd cc

export_there : (es : List Export) (n : ℕ) → exported_compute es ≡ Some n → Contains es (compute_export n)
export_there es n e = by_find (find has_its_name es) refl e
  where
    by_find : (o : Option Export) → find has_its_name es ≡ o → option_and_then (λ (x : Export). exported_function x.description) o ≡ Some n → Contains es (compute_export n)
    by_find None f g = absurd cc
    by_find (Some x) f g =
        let h = found_there es x f in
        subst (λ (y : Export). Contains es y) (named x n h.1 g) h.0

-- all that has the properties of `compute` has the number that is found
pub only_number : (m : Module) → AreDistinct (map name_of_export m.exports) → (h : HasCompute m) → exported_compute m.exports ≡ Some h.number
only_number m d h = ap (option_and_then (λ (x : Export). exported_function x.description)) (there_found m.exports h.number d h.exported)

plain_there : (m : Module) (o : Option Function) → OfPlainType m o → (f : Function) × (o ≡ Some f) × (slice_get m.types f.type_number ≡ Some plain_type)
plain_there m None h = absurd h
plain_there m (Some f) h = (f, refl, h)

pub is_number : (m : Module) (n : ℕ) → AreDistinct (map name_of_export m.exports) → exported_compute m.exports ≡ Some n → IsDefinedPlain m n → IsComputeNumber m n
is_number m n d e p =
    let there = plain_there m (slice_get m.functions (n - imported_functions m.imports)) p.1 in
    record {
      compute = record {
        number = n;
        function = there.0;
        exported = export_there m.exports n e;
        past_imports = p.0;
        defined = there.1;
        typed = there.2;
      };
      here = refl;
      only = λ h. let o = only_number m d h in cc;
    }

pub one_number : (m : Module) → AreDistinct (map name_of_export m.exports) → (one other : HasCompute m) → one.number ≡ other.number
one_number m d one other = let o = only_number m d one in let p = only_number m d other in cc

-- where another is found, or none, there is no `compute`
pub no_number : (m : Module) → AreDistinct (map name_of_export m.exports) → exported_compute m.exports ≡ None → HasCompute m → ⊥
no_number m d e h = let o = only_number m d h in absurd cc

pub not_plain : (m : Module) (n : ℕ) → AreDistinct (map name_of_export m.exports) → exported_compute m.exports ≡ Some n → (IsDefinedPlain m n → ⊥) → HasCompute m → ⊥
not_plain m n d e p h =
    let o = only_number m d h in
    let same : h.number ≡ n = cc in
    p (subst (IsDefinedPlain m) same (h.past_imports, subst (OfPlainType m) (sym h.defined) h.typed))
