-- What is read is spelled so, and within limits: modules.
use Rattle.std.proofs.Common.{◌≡◌, ℕ, ◌+◌, ◌-◌, ◌≤◌, inl, inr, List, [], ◌∷◌, ◌++◌, length, Option, Some, None, refl, sym, ap, subst, ◌∙◌, arith}
use Rattle.std.proofs.lemmas.Bool.{leb-true, eqb-true}
use Rattle.std.proofs.lemmas.List.{append-nil}
use Rattle.std.specs.Prelude.{nat_le, ◌==◌}
use Rattle.std.specs.List.{AllByRecursion}
use Rattle.leb.specs.inside.Bytes.{IsBytes}
use Rattle.wasm_ast.specs.declared.types.FuncType.{FuncType}
use Rattle.wasm_ast.specs.declared.module.Import.{Import}
use Rattle.wasm_ast.specs.declared.module.Function.{Function}
use Rattle.wasm_ast.specs.declared.module.Global.{Global}
use Rattle.wasm_ast.specs.declared.module.Element.{Element}
use Rattle.wasm_ast.specs.declared.module.Data.{Data}
use Rattle.wasm_ast.specs.declared.module.Module.{Module}
use Rattle.wasm_ast.specs.Modules.{empty_module}
use Rattle.wasm_ast.specs.Limits.{max_module_bytes, max_functions, IsBodyWithin, IsTypeWithin, IsFunctionWithin, imported_functions, IsWithinLimits}
use Rattle.wasm_items.specs.Bytes.{Then, U32, Vector}
use Rattle.wasm_items.specs.Types.{SpellsFuncType, SpellsLimits, SpellsTableType}
use Rattle.wasm_items.specs.Items.{SpellsImport, SpellsGlobal, SpellsExport, SpellsElement, SpellsData}
use Rattle.wasm_items.specs.inside.Reading.{Reads, is_empty, any_count, vector_at}
use Rattle.wasm_items.specs.inside.ReadingItems.{import_at}
use Rattle.wasm_decode.specs.Grammar.{SpellsFunction, type_numbers, Customs, VectorSection, StartSection, magic, version, SpellsSections, Spells}
use Rattle.wasm_decode.specs.inside.ReadingModule.{imports_at, start_at, functions_at, skip_customs, no_bodies, section_with, items_in, types_at, numbers_at, spaces_at, exports_at, contents_at, remaining_at, filled_at, sections_at, after_bytes, module_at}
use Rattle.wasm_items.proofs.TakesItems.{import_takes, global_takes, export_takes, element_takes, data_takes}
use Rattle.wasm_items.proofs.TakesParts.{u32_takes, vector_takes, func_type_takes, limits_takes, table_type_takes}
use Rattle.wasm_items.proofs.Tools.{Spelling, Within, bind_some, guarded_some, some_is, never, IsBytes-back, Takes, IsSound, Takes-all, Takes-map, Takes-back, Takes-after, Then_takes, made_takes, Then-joined, Then-assoc, Then-two, Then-three}
use Rattle.wasm_decode.proofs.Limited.{are_few, Vector-apart, VectorSection-apart}
use Rattle.wasm_decode.proofs.SectionParts.{MaySpell, Section-map, length-type_numbers}
use Rattle.wasm_decode.proofs.TakesFunctions.{AreFew, AreBodies, functions_take}
use Rattle.wasm_decode.proofs.TakesSections.{skip_customs_takes, section_takes, vector_section_takes}

-- ---- single sections, and the custom ones behind them

-- a section of items, and custom ones behind it
abbrev Items_in : {A : Type 0} → ℕ → Spelling A → Spelling (List A)
Items_in number spelled xs bytes = Then (VectorSection number spelled xs) Customs bytes

items_take : {A : Type 0} {item : Reads A} (spelled : Spelling A) → IsSound item spelled → (number : ℕ) → IsSound (items_in item number) (Items_in number spelled)
items_take spelled sound number bytes x fits e =
    Takes-map (vector_section_takes spelled sound any_count number bytes x fits e) λ f s. s.and_customs

-- the same, where the items are within limits too
limited_take : {A : Type 0} {item : Reads A} (spelled : Spelling A) (limits : A → Type 0) → IsSound item (Within spelled limits) → (number : ℕ)
    → IsSound (items_in item number) (Within (Items_in number spelled) (AllByRecursion limits))
limited_take spelled limits sound number bytes x fits e =
    Takes-map (items_take (Within spelled limits) sound number bytes x fits e) λ f s.
    let apart = VectorSection-apart spelled limits number x.0 s.front s.is_first in
    (record { front = s.front; back = s.back; is_first = apart.0; is_second = s.is_second; parts = s.parts }, apart.1)

-- at most so many imports are functions as a module may have
abbrev AreImports : List Import → Type 0
AreImports imports = imported_functions imports ≤ max_functions

imports_take : IsSound imports_at (Within (Vector SpellsImport) AreImports)
unfolding imports_at
imports_take bytes x fits e =
    let a = bind_some (vector_at import_at any_count bytes) _ x e in
    let g = guarded_some (nat_le (imported_functions a.0.0) max_functions) (Some a.0) x a.2 in
    let t = vector_takes SpellsImport import_takes any_count bytes a.0 fits a.1 in
    rw (← some_is a.0 x g.1) (Takes-map t λ f s. (s.is_vector, leb-true _ max_functions g.0))

import_section : (imports : List Import) (front back : List ℕ) → MaySpell 2 (Some []) imports (Within (Vector SpellsImport) AreImports imports) front → Customs back
    → Within (Items_in 2 SpellsImport) AreImports imports (front ++ back)
import_section imports front back (inl h) customs =
    (Then-joined front back (inl (Section-map 2 front (λ inside s. s.0) h)) customs, h.is_second.spelled.1)
import_section imports front back (inr h) customs =
    let empty = some_is [] imports h.0 in
    (Then-joined front back (inr (sym empty, h.1)) customs, rw (← empty) (omega arith))

import_section_takes : IsSound (section_with imports_at (Some []) 2) (Within (Items_in 2 SpellsImport) AreImports)
import_section_takes bytes x fits e =
    Takes-map (section_takes (Some []) 2 (Within (Vector SpellsImport) AreImports) imports_take bytes x fits e) λ f s.
    rw s.parts (import_section x.0 s.front s.back s.is_first s.is_second)

-- the number of a function that starts the module
abbrev IsStart : Option ℕ → List ℕ → Type 0
IsStart None bytes = ⊥
IsStart (Some n) bytes = U32 n bytes

start_takes : IsSound start_at IsStart
unfolding start_at
start_takes bytes x fits e = made_takes IsStart u32_takes fits e λ n f s. s

start_section : (start : Option ℕ) (bytes : List ℕ) → MaySpell 8 (Some None) start (IsStart start) bytes → StartSection start bytes
start_section None bytes (inl h) = absurd h.is_second.spelled
start_section (Some n) bytes (inl h) = h
start_section None bytes (inr h) = h.1
start_section (Some n) bytes (inr h) = absurd (let none = h.0 in cc)

start_section_takes : IsSound (section_with start_at (Some None) 8) (λ start f. Then (StartSection start) Customs f)
start_section_takes bytes x fits e =
    Takes-map (section_takes (Some None) 8 IsStart start_takes bytes x fits e) λ f s.
    record { front = s.front; back = s.back; is_first = start_section x.0 s.front s.is_first; is_second = s.is_second; parts = s.parts }

-- the bodies of the functions whose types these are
record IsCodeSection (types : List FuncType) (ts : List ℕ) (functions : List Function) (bytes : List ℕ) : Type 0 where
  typed : type_numbers functions ≡ ts
  limited : AllByRecursion (IsFunctionWithin types) functions
  spelled : Items_in 10 SpellsFunction functions bytes

no_bodies_some : (ts : List ℕ) (functions : List Function) → no_bodies ts ≡ Some functions → (type_numbers functions ≡ ts) × (functions ≡ [])
no_bodies_some [] functions e = let none = some_is [] functions e in (rw (← none) refl, sym none)
no_bodies_some (t ∷ ts) functions e = never functions e

code_section : (types : List FuncType) (ts : List ℕ) (functions : List Function) (front back : List ℕ)
    → MaySpell 10 (no_bodies ts) functions (AreBodies types ts functions) front → Customs back → IsCodeSection types ts functions (front ++ back)
code_section types ts functions front back (inl h) customs =
    let apart = Vector-apart SpellsFunction (IsFunctionWithin types) functions in
    record {
      typed = h.is_second.spelled.typed;
      limited = (apart h.is_second.inside h.is_second.spelled.spelled).1;
      spelled = Then-joined front back (inl (Section-map 10 front (λ inside s. (apart inside s.spelled).0) h)) customs;
    }
code_section types ts functions front back (inr h) customs =
    let none = no_bodies_some ts functions h.0 in
    record { typed = none.0; limited = rw none.1 tt; spelled = Then-joined front back (inr (none.1, h.1)) customs }

code_section_takes : (types : List FuncType) (ts : List ℕ) → AreFew types
    → IsSound (section_with (functions_at types ts) (no_bodies ts) 10) (IsCodeSection types ts)
code_section_takes types ts few bytes x fits e =
    Takes-map (section_takes (no_bodies ts) 10 (AreBodies types ts) (functions_take types few ts) bytes x fits e) λ f s.
    rw s.parts (code_section types ts x.0 s.front s.back s.is_first s.is_second)

-- ---- sections that follow one another

-- a module made of another by what these bytes hold
record AreTypes (m n : Module) (bytes : List ℕ) : Type 0 where
  same : n ≡ record m { types = n.types; imports = n.imports }
  limited : AllByRecursion IsTypeWithin n.types
  few : AreImports n.imports
  spelled : Then (Items_in 1 SpellsFuncType n.types) (Items_in 2 SpellsImport n.imports) bytes

types_take : (m : Module) → IsSound (types_at m) (AreTypes m)
unfolding types_at
types_take m bytes x fits e =
    Then_takes _ (limited_take SpellsFuncType IsTypeWithin func_type_takes 1) fits e λ types f b s fits1 e1.
    made_takes (λ n f1. AreTypes m n (f ++ f1)) import_section_takes fits1 e1 λ imports f1 s1.
    record { same = refl; limited = s.1; few = s1.1; spelled = Then-joined f f1 s.0 s1.0 }

record AreNumbers (imported : ℕ) (numbers bytes : List ℕ) : Type 0 where
  few : length numbers ≤ max_functions - imported
  spelled : Items_in 3 U32 numbers bytes

numbers_take : (imported : ℕ) → IsSound (numbers_at imported) (AreNumbers imported)
unfolding numbers_at
numbers_take imported bytes x fits e =
    Takes-map (vector_section_takes U32 u32_takes (max_functions - imported) 3 bytes x fits e) λ f s. record { few = s.few; spelled = s.and_customs }

record AreSpaces (m n : Module) (bytes : List ℕ) : Type 0 where
  same : n ≡ record m { tables = n.tables; memories = n.memories; globals = n.globals }
  limited : AllByRecursion (λ (g : Global). IsBodyWithin g.initial) n.globals
  spelled : Then (Items_in 4 SpellsTableType n.tables) (Then (Items_in 5 SpellsLimits n.memories) (Items_in 6 SpellsGlobal n.globals)) bytes

spaces_take : (m : Module) → IsSound (spaces_at m) (AreSpaces m)
unfolding spaces_at
spaces_take m bytes x fits e =
    Then_takes _ (items_take SpellsTableType table_type_takes 4) fits e λ tables f b s fits1 e1.
    Then_takes _ (items_take SpellsLimits limits_takes 5) fits1 e1 λ memories f1 b1 s1 fits2 e2.
    made_takes (λ n f2. AreSpaces m n (f ++ (f1 ++ f2))) (limited_take SpellsGlobal (λ g. IsBodyWithin g.initial) global_takes 6) fits2 e2 λ globals f2 s2.
    record { same = refl; limited = s2.1; spelled = Then-joined f (f1 ++ f2) s (Then-joined f1 f2 s1 s2.0) }

record AreExports (m n : Module) (bytes : List ℕ) : Type 0 where
  same : n ≡ record m { exports = n.exports; start = n.start; elements = n.elements }
  limited : AllByRecursion (λ (e : Element). IsBodyWithin e.offset) n.elements
  spelled : Then (Items_in 7 SpellsExport n.exports) (Then (Then (StartSection n.start) Customs) (Items_in 9 SpellsElement n.elements)) bytes

exports_take : (m : Module) → IsSound (exports_at m) (AreExports m)
unfolding exports_at
exports_take m bytes x fits e =
    Then_takes _ (items_take SpellsExport export_takes 7) fits e λ exports f b s fits1 e1.
    Then_takes _ start_section_takes fits1 e1 λ start f1 b1 s1 fits2 e2.
    made_takes (λ n f2. AreExports m n (f ++ (f1 ++ f2))) (limited_take SpellsElement (λ e. IsBodyWithin e.offset) element_takes 9) fits2 e2 λ elements f2 s2.
    record { same = refl; limited = s2.1; spelled = Then-joined f (f1 ++ f2) s (Then-joined f1 f2 s1 s2.0) }

record AreContents (ts : List ℕ) (m n : Module) (bytes : List ℕ) : Type 0 where
  same : n ≡ record m { functions = n.functions; «data» = n.data }
  typed : type_numbers n.functions ≡ ts
  functions : AllByRecursion (IsFunctionWithin m.types) n.functions
  segments : AllByRecursion (λ (d : Data). IsBodyWithin d.offset) n.data
  spelled : Then (Items_in 10 SpellsFunction n.functions) (Items_in 11 SpellsData n.data) bytes

contents_take : (ts : List ℕ) (m : Module) → AreFew m.types → IsSound (contents_at ts m) (AreContents ts m)
unfolding contents_at
contents_take ts m few bytes x fits e =
    Then_takes _ (code_section_takes m.types ts few) fits e λ functions f b s fits1 e1.
    made_takes (λ n f1. AreContents ts m n (f ++ f1)) (limited_take SpellsData (λ d. IsBodyWithin d.offset) data_takes 11) fits1 e1 λ segments f1 s1.
    record { same = refl; typed = s.typed; functions = s.limited; segments = s1.1; spelled = Then-joined f f1 s.spelled s1.0 }

-- ---- modules

-- these sections are all of the module
record IsFound (m : Module) (sections : List ℕ) : Type 0 where
  spelled : SpellsSections m sections
  limited : IsWithinLimits m

-- a module made in steps, with what was read in each
module _ (a b c m : Module) (numbers f f1 f2 f3 f4 f5 : List ℕ) (customs : Customs f) (t : AreTypes empty_module a f1)
    (n : AreNumbers (imported_functions a.imports) numbers f2) (s : AreSpaces a b f3) (e : AreExports b c f4) (k : AreContents numbers c m f5) where
  types_kept : m.types ≡ a.types
  types_kept = ap (λ (m : Module). m.types) k.same ∙ (ap (λ (m : Module). m.types) e.same ∙ ap (λ (m : Module). m.types) s.same)

  imports_kept : m.imports ≡ a.imports
  imports_kept = ap (λ (m : Module). m.imports) k.same ∙ (ap (λ (m : Module). m.imports) e.same ∙ ap (λ (m : Module). m.imports) s.same)

  tables_kept : m.tables ≡ b.tables
  tables_kept = ap (λ (m : Module). m.tables) k.same ∙ ap (λ (m : Module). m.tables) e.same

  memories_kept : m.memories ≡ b.memories
  memories_kept = ap (λ (m : Module). m.memories) k.same ∙ ap (λ (m : Module). m.memories) e.same

  globals_kept : m.globals ≡ b.globals
  globals_kept = ap (λ (m : Module). m.globals) k.same ∙ ap (λ (m : Module). m.globals) e.same

  exports_kept : m.exports ≡ c.exports
  exports_kept = ap (λ (m : Module). m.exports) k.same

  start_kept : m.start ≡ c.start
  start_kept = ap (λ (m : Module). m.start) k.same

  elements_kept : m.elements ≡ c.elements
  elements_kept = ap (λ (m : Module). m.elements) k.same

  is_limited : IsWithinLimits m
  is_limited =
      let numbered : length m.functions ≡ length numbers = sym (length-type_numbers m.functions) ∙ ap length k.typed in
      let room : imported_functions a.imports + length m.functions ≤ max_functions = omega (arith, t.few, n.few, numbered) in
      let same_types : m.types ≡ c.types = ap (λ (m : Module). m.types) k.same in
      record {
        types = rw types_kept t.limited;
        count = rw imports_kept room;
        functions = rw same_types k.functions;
        globals = rw globals_kept s.limited;
        elements = rw elements_kept e.limited;
        segments = k.segments;
      }

  is_found : IsFound m (f ++ (f1 ++ (f2 ++ (f3 ++ (f4 ++ f5)))))
  is_found =
      let from_functions = Then-assoc k.spelled in
      let from_exports = Then-three f4 f5 e.spelled from_functions in
      let from_spaces = Then-three f3 (f4 ++ f5) s.spelled from_exports in
      let from_numbers = Then-assoc (Then-joined f2 (f3 ++ (f4 ++ f5)) n.spelled from_spaces) in
      let from_types = Then-two f1 (f2 ++ (f3 ++ (f4 ++ f5))) t.spelled from_numbers in
      let all = Then-joined f (f1 ++ (f2 ++ (f3 ++ (f4 ++ f5)))) customs from_types in
      record {
        spelled = rw (types_kept, imports_kept, k.typed, tables_kept, memories_kept, globals_kept, exports_kept, start_kept, elements_kept) all;
        limited = is_limited;
      }

sections_take : (bytes : List ℕ) (m : Module) → IsBytes bytes → sections_at bytes ≡ Some m → Takes (IsFound m) bytes []
unfolding sections_at filled_at remaining_at
sections_take bytes m fits e =
    let customs = bind_some (skip_customs bytes) _ m e in
    let first = skip_customs_takes bytes customs.0 fits customs.1 in
    Takes-after first (
    Then_takes _ (types_take empty_module) (Takes-back first fits) customs.2 λ a f1 b1 t fits1 e1.
    Then_takes _ (numbers_take (imported_functions a.imports)) fits1 e1 λ numbers f2 b2 n fits2 e2.
    Then_takes _ (spaces_take a) fits2 e2 λ b f3 b3 s fits3 e3.
    Then_takes _ (exports_take b) fits3 e3 λ c f4 b4 x fits4 e4.
    let same : c.types ≡ a.types = ap (λ (m : Module). m.types) x.same ∙ ap (λ (m : Module). m.types) s.same in
    let few : AreFew c.types = rw same (are_few a.types t.limited) in
    let contents = bind_some (contents_at numbers c b4) _ m e4 in
    let end = guarded_some (is_empty contents.0.1) _ m contents.2 in
    let made : contents.0.0 ≡ m = some_is contents.0.0 m end.1 in
    let k = Takes-all b4 contents.0.1 (contents_take numbers c few b4 contents.0 fits4 contents.1) end.0 in
    let found = is_found a b c contents.0.0 numbers first.front f1 f2 f3 f4 b4 first.is_spelled t n s x k in
    record { front = b4; is_spelled = subst (λ (m : Module). IsFound m (first.front ++ (f1 ++ (f2 ++ (f3 ++ (f4 ++ b4)))))) made found; parts = sym (append-nil b4) })

after_bytes_some : (given bytes rest : List ℕ) → after_bytes given bytes ≡ Some rest → bytes ≡ given ++ rest
unfolding after_bytes
after_bytes_some [] bytes rest e = some_is bytes rest e
after_bytes_some (c ∷ given) [] rest e = never rest e
after_bytes_some (c ∷ given) (b ∷ bytes) rest e =
    let g = guarded_some (b == c) (after_bytes given bytes) rest e in
    rw (eqb-true b c g.0, after_bytes_some given bytes rest g.1) refl

pub module_takes : (bytes : List ℕ) (m : Module) → IsBytes bytes → module_at bytes ≡ Some m → Spells bytes m
unfolding module_at
module_takes bytes m fits e =
    let size = guarded_some (nat_le (length bytes) max_module_bytes) _ m e in
    let numbered = bind_some (after_bytes magic bytes) _ m size.1 in
    let header = bind_some (after_bytes version numbered.0) sections_at m numbered.2 in
    let first = after_bytes_some magic bytes numbered.0 numbered.1 in
    let second = after_bytes_some version numbered.0 header.0 header.1 in
    let parts : bytes ≡ magic ++ version ++ header.0 = first ∙ ap (λ (xs : List ℕ). magic ++ xs) second in
    let is = Takes-all header.0 [] (sections_take header.0 m (IsBytes-back (magic ++ version) header.0 (rw parts at fits)) header.2) refl in
    record { sections = header.0; spelled = is.spelled; parts = parts; small = leb-true (length bytes) max_module_bytes size.0; limited = is.limited }
