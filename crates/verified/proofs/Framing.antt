-- The cells of a function, and that counts do not saturate in a function that runs.
use Rattle.std.proofs.Common.{◌≡◌, ℕ, zero, suc, ◌+◌, ◌-◌, ◌<◌, ◌≤◌, min, List, [], ◌∷◌, length, get_or, slice_get, if◌then◌else◌, Option, Some, None, refl, sym, ap, ◌∙◌, subst, arith, le-ltb}
use Rattle.std.specs.Option.{option_map}
use Rattle.std.specs.List.{AllByRecursion}
use Rattle.std.specs.Prelude.{filter}
use Rattle.std.proofs.lemmas.List.{length-map}
use Rattle.std.proofs.lemmas.List.Sums.{length-filter}
use Rattle.std.proofs.lemmas.Option.{slice_get-map, slice_get_read}
use Rattle.wasm_ast.specs.declared.module.Function.{Function}
use Rattle.wasm_ast.specs.declared.module.Module.{Module}
use Rattle.wasm_ast.specs.Code.{Code}
use Rattle.wasm_ast.specs.Limits.{is_function, imported_functions}
use Rattle.verified.specs.Modules.{TypeHolds}
use Rattle.verified.specs.Calls.{Calls, body_of, callees, calls_in}
use Rattle.verified.specs.Cycles.{Leads}
use Rattle.verified.specs.Sizes.{size_in, AreSizes, max_size}
use Rattle.verified.specs.declared.imports.HostCall.{HostCall}
use Rattle.verified.specs.Imports.{call_of}
use Rattle.verified.specs.declared.cells.Cells.{Cells}
use Rattle.verified.specs.declared.facts.Facts.{Facts}
use Rattle.verified.specs.Arities.{call_arity}
use Rattle.verified.specs.Cells.{locals_in, locals_at, no_heights, own_height, most_told, MayRun, cells_of, cells_table}
use Rattle.verified.specs.Facts.{AreFacts}
use Rattle.verified.specs.Heights.{peak_in}
use Rattle.verified.specs.Hosts.{AreHostCalls}
use Rattle.verified.specs.Profile.{IsBounded}
use Rattle.verified.proofs.StackHeights.{own_small}
use Rattle.verified.proofs.Calling.{calls_small, narrow_calls}

-- ---- functions by number

pub imports_counted : (m : Module) (calls : List HostCall) → AreHostCalls m calls → length calls ≡ imported_functions m.imports
imports_counted m calls e =
    sym (length-map calls Some)
    ∙ sym (ap length e)
    ∙ length-map (filter is_function m.imports) call_of
    ∙ length-filter is_function m.imports

body_at : (m : Module) (f : ℕ) → imported_functions m.imports ≤ f → body_of m f ≡ option_map (λ (g : Function). g.body) (slice_get m.functions (f - imported_functions m.imports))
body_at m f past = ap (λ b. if b then None else option_map (λ (g : Function). g.body) (slice_get m.functions (f - imported_functions m.imports))) (le-ltb f (imported_functions m.imports) past)

-- the table has the cells of a function
pub table_tells : (m : Module) (f : ℕ) (cells : Cells) → imported_functions m.imports ≤ f → slice_get (cells_table m) (f - imported_functions m.imports) ≡ Some cells → (cells.locals ≡ locals_at m f) × (cells.operands ≡ min (own_height m f) most_told)
table_tells m f cells past e =
    let told = by_function (slice_get m.functions (f - imported_functions m.imports)) (sym e ∙ slice_get-map (cells_of m) m.functions (f - imported_functions m.imports)) in
    (told.0, told.1 ∙ ap (λ b. min (peak_in m no_heights b) most_told) (sym (body_at m f past)))
  where
    by_function : (o : Option Function) → Some cells ≡ option_map (cells_of m) o → (cells.locals ≡ locals_in m o) × (cells.operands ≡ min (peak_in m no_heights (option_map (λ (g : Function). g.body) o)) most_told)
    by_function None h = absurd cc
    by_function (Some g) h =
        let same : cells ≡ cells_of m g = cc in
        (ap (λ (k : Cells). k.locals) same, ap (λ (k : Cells). k.operands) same)

-- ---- functions that run

each : (P : ℕ → Type 0) (xs : List ℕ) (k : ℕ) → AllByRecursion P xs → k < length xs → P (get_or xs k 0)
each P [] k h l = absurd (omega arith)
each P (x ∷ xs) zero h l = h.0
each P (x ∷ xs) (suc k) h l = each P xs k h.1 (omega arith)

module _ (m : Module) (sizes : ℕ → ℕ) (sized : AreSizes m sizes) where
  callees_small : (f : ℕ) → AllByRecursion (λ g. sizes g ≤ sizes f) (callees m f)
  callees_small f = by_body (body_of m f) (sized f)
    where
      by_body : (b : Option Code) → sizes f ≡ size_in m sizes b → AllByRecursion (λ g. sizes g ≤ sizes f) (calls_in b)
      by_body None e = tt
      by_body (Some c) e = calls_small m sizes (sizes f) c (omega (arith, e))

  callee_small : (f g : ℕ) → Calls (callees m) f g → sizes g ≤ sizes f
  callee_small f g h = subst (λ n. sizes n ≤ sizes f) h.2 (each (λ n. sizes n ≤ sizes f) (callees m f) h.0 (callees_small f) h.1)

  leads_small : (path : List ℕ) (f g : ℕ) → Leads (callees m) f path g → sizes g ≤ sizes f
  leads_small [] f g h = let e = ap sizes h in omega (arith, e)
  leads_small (x ∷ xs) f g h =
      let first = callee_small f h.0 h.2 in
      let others = leads_small xs h.0 g h.3 in
      omega (arith, first, others)

  own_in : ((f : ℕ) → (call_arity m f).gives ≤ 1) → (b : Option Code) → peak_in m no_heights b ≤ size_in m sizes b
  own_in narrow None = omega arith
  own_in narrow (Some c) = own_small m sizes narrow c

-- a function that runs has no more operands of its own than `compute` has size
pub runs_small : (m : Module) (facts : Facts) (f : ℕ) → AllByRecursion TypeHolds m.types → IsBounded m → AreFacts m facts → MayRun m f → own_height m f ≤ max_size
runs_small m facts f types bounded told run =
    let s = (told run.compute).size in
    let same : bounded.compute.number ≡ run.compute.number = sym (told bounded.compute).number ∙ (told run.compute).number in
    let within : s.0 run.compute.number ≤ max_size = subst (λ n. s.0 n ≤ max_size) same (bounded.size s.0 s.1) in
    let reached = leads_small m s.0 s.1 run.path run.compute.number f run.leads in
    let own = own_in m s.0 s.1 (narrow_calls m types) (body_of m f) in
    let e = s.1 f in
    omega (arith, own, e, reached, within)

-- ---- the table as it is read

pub read_cells : (m : Module) (f count : ℕ) (table : List Cells) (cells : Cells) → table ≡ cells_table m → count ≡ imported_functions m.imports → imported_functions m.imports ≤ f → f < imported_functions m.imports + length m.functions → cells ≡ get_or table (f - count) cells → (cells.locals ≡ locals_at m f) × (cells.operands ≡ min (own_height m f) most_told)
read_cells m f count table cells same counted past under read =
    let long : length table ≡ length m.functions = ap length same ∙ length-map m.functions (cells_of m) in
    let at : cells ≡ get_or table (f - imported_functions m.imports) cells = subst (λ k. cells ≡ get_or table (f - k) cells) counted read in
    let found = slice_get_read table (length table) (f - imported_functions m.imports) cells refl (omega (arith, long, past, under)) at in
    table_tells m f cells past (subst (λ (t : List Cells). slice_get t (f - imported_functions m.imports) ≡ Some cells) same found)
