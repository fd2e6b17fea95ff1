-- What is spelled so, and within limits, is read: modules.
use Rattle.std.proofs.Common.{◌≡◌, ℕ, zero, suc, ◌-◌, ◌≤◌, inl, inr, List, [], ◌++◌, length, Option, Some, None, refl, sym, ap, arith}
use Rattle.std.proofs.lemmas.Bool.{le-leb}
use Rattle.std.proofs.lemmas.List.{append-nil}
use Rattle.std.specs.List.{AllByRecursion}
use Rattle.wasm_ast.specs.declared.types.FuncType.{FuncType}
use Rattle.wasm_ast.specs.declared.module.Import.{Import}
use Rattle.wasm_ast.specs.declared.module.Function.{Function}
use Rattle.wasm_ast.specs.declared.module.Module.{Module}
use Rattle.wasm_ast.specs.Limits.{max_module_bytes, max_functions, IsBodyWithin, IsTypeWithin, IsFunctionWithin, imported_functions, IsWithinLimits}
use Rattle.wasm_items.specs.Bytes.{Then, U32, Vector}
use Rattle.wasm_items.specs.Types.{SpellsFuncType, SpellsLimits, SpellsTableType}
use Rattle.wasm_items.specs.Items.{SpellsImport, SpellsGlobal, SpellsExport, SpellsElement, SpellsData}
use Rattle.wasm_items.specs.inside.Reading.{Reads, any_count, u32_at, vector_at, func_type_at, limits_at, table_type_at}
use Rattle.wasm_items.specs.inside.ReadingItems.{import_at, global_at, export_at, element_at, data_at}
use Rattle.wasm_decode.specs.Grammar.{SpellsFunction, type_numbers, Customs, VectorSection, StartSection, magic, version, SpellsSections, Spells}
use Rattle.wasm_decode.specs.inside.ReadingModule.{imports_at, start_at, functions_at, customs_at, skip_customs, no_bodies, types_at, numbers_at, spaces_at, exports_at, contents_at, remaining_at, filled_at, sections_at, after_bytes, module_at}
use Rattle.wasm_items.proofs.AgainItems.{import_again, global_again, export_again, element_again, data_again}
use Rattle.wasm_items.proofs.AgainParts.{u32_again, vector_again, length-Vector, func_type_again, limits_again, table_type_again}
use Rattle.wasm_items.proofs.Tools.{Spelling, Within, IsRead, IsComplete}
use Rattle.wasm_decode.proofs.AgainFunctions.{functions_again}
use Rattle.wasm_decode.proofs.AgainSections.{Skips, customs_before, Leads, IsSectionRead, section_again}
use Rattle.wasm_decode.proofs.Limited.{Vector-together, VectorSection-together}
use Rattle.wasm_decode.proofs.SectionParts.{MaySpell, Section-map, length-type_numbers}
use Rattle.wasm_decode.proofs.TakesFunctions.{FunctionWithin}

-- ---- single sections

MaySpell-vector : {A : Type 0} (number : ℕ) (spelled : Spelling A) (xs : List A) (bytes : List ℕ) → VectorSection number spelled xs bytes
    → MaySpell number (Some []) xs (Vector spelled xs) bytes
MaySpell-vector number spelled xs bytes (inl h) = inl h
MaySpell-vector number spelled xs bytes (inr h) = inr (ap Some (sym h.0), h.1)

length-VectorSection : {A : Type 0} (number : ℕ) (spelled : Spelling A) (xs : List A) (bytes : List ℕ) → VectorSection number spelled xs bytes
    → length xs ≤ any_count
length-VectorSection number spelled xs bytes (inl h) = length-Vector spelled xs h.is_second.inside h.is_second.spelled
length-VectorSection number spelled xs bytes (inr h) = rw h.0 (omega arith)

vector_section_again : {A : Type 0} {V Q : List ℕ → Type 0} (item : Reads A) (spelled : Spelling A) (most number : ℕ) (xs : List A)
    → (bytes rest : List ℕ) → IsComplete item spelled → length xs ≤ most → 1 ≤ number → number ≤ 11 → (h : Then V (Then Customs Q) bytes)
    → VectorSection number spelled xs h.front → Leads (suc number) h.is_second.back rest → IsSectionRead (vector_at item most) (Some []) number xs bytes rest
vector_section_again item spelled most number xs bytes rest again few some last h s leads =
    section_again (vector_at item most) (Some []) number some last (vector_again item spelled again most xs few) bytes rest h
    (MaySpell-vector number spelled xs h.front s) leads

-- any number of items
items_again : {A : Type 0} {Q : List ℕ → Type 0} (item : Reads A) (spelled : Spelling A) (number : ℕ) (xs : List A) (bytes rest : List ℕ)
    → IsComplete item spelled → 1 ≤ number → number ≤ 11 → (h : Then (VectorSection number spelled xs) (Then Customs Q) bytes)
    → Leads (suc number) h.is_second.back rest → IsSectionRead (vector_at item any_count) (Some []) number xs bytes rest
items_again item spelled number xs bytes rest again some last h leads =
    vector_section_again item spelled any_count number xs bytes rest again (length-VectorSection number spelled xs h.front h.is_first) some last h h.is_first leads

-- the same, where the items are within limits
limited_again : {A : Type 0} {Q : List ℕ → Type 0} (item : Reads A) (spelled : Spelling A) (limits : A → Type 0) (number : ℕ) (xs : List A)
    → (bytes rest : List ℕ) → IsComplete item (Within spelled limits) → AllByRecursion limits xs → 1 ≤ number → number ≤ 11
    → (h : Then (VectorSection number spelled xs) (Then Customs Q) bytes) → Leads (suc number) h.is_second.back rest
    → IsSectionRead (vector_at item any_count) (Some []) number xs bytes rest
limited_again item spelled limits number xs bytes rest again all some last h leads =
    vector_section_again item (Within spelled limits) any_count number xs bytes rest again
    (length-VectorSection number spelled xs h.front h.is_first) some last h (VectorSection-together spelled limits number xs h.front h.is_first all) leads

imports_again : (imports : List Import) → imported_functions imports ≤ max_functions → IsRead imports_at imports (Vector SpellsImport imports)
unfolding imports_at
imports_again imports few front rest h =
    rw (vector_again import_at SpellsImport import_again any_count imports (length-Vector SpellsImport imports front h) front rest h, le-leb _ max_functions few) refl

import_section_again : {Q : List ℕ → Type 0} (imports : List Import) (bytes rest : List ℕ) → imported_functions imports ≤ max_functions
    → (h : Then (VectorSection 2 SpellsImport imports) (Then Customs Q) bytes) → Leads 3 h.is_second.back rest
    → IsSectionRead imports_at (Some []) 2 imports bytes rest
import_section_again imports bytes rest few h leads =
    section_again imports_at (Some []) 2 (omega arith) (omega arith) (imports_again imports few) bytes rest h
    (MaySpell-vector 2 SpellsImport imports h.front h.is_first) leads

-- the number of a function that starts the module
abbrev IsStart : Option ℕ → List ℕ → Type 0
IsStart None bytes = ⊥
IsStart (Some n) bytes = U32 n bytes

start_again : (start : Option ℕ) → IsRead start_at start (IsStart start)
unfolding start_at
start_again None front rest h = absurd h
start_again (Some n) front rest h = rw (u32_again n front rest h) refl

MaySpell-start : (start : Option ℕ) (bytes : List ℕ) → StartSection start bytes → MaySpell 8 (Some None) start (IsStart start) bytes
MaySpell-start None bytes h = inr (refl, h)
MaySpell-start (Some n) bytes h = inl h

start_section_again : {Q : List ℕ → Type 0} (start : Option ℕ) (bytes rest : List ℕ) → (h : Then (StartSection start) (Then Customs Q) bytes)
    → Leads 9 h.is_second.back rest → IsSectionRead start_at (Some None) 8 start bytes rest
start_section_again start bytes rest h leads =
    section_again start_at (Some None) 8 (omega arith) (omega arith) (start_again start) bytes rest h (MaySpell-start start h.front h.is_first) leads

-- where there are no functions nothing may stand for their bodies
MaySpell-code : (types : List FuncType) (functions : List Function) (bytes : List ℕ) → VectorSection 10 SpellsFunction functions bytes
    → AllByRecursion (IsFunctionWithin types) functions
    → MaySpell 10 (no_bodies (type_numbers functions)) functions (Vector (FunctionWithin types) functions) bytes
MaySpell-code types functions bytes (inl h) all =
    inl (Section-map 10 bytes (λ inside v. Vector-together SpellsFunction (IsFunctionWithin types) functions inside v all) h)
MaySpell-code types functions bytes (inr h) all = inr (rw h.0 refl, h.1)

code_section_again : {Q : List ℕ → Type 0} (types : List FuncType) (functions : List Function) (bytes rest : List ℕ)
    → AllByRecursion (IsFunctionWithin types) functions → (h : Then (VectorSection 10 SpellsFunction functions) (Then Customs Q) bytes)
    → Leads 11 h.is_second.back rest
    → IsSectionRead (functions_at types (type_numbers functions)) (no_bodies (type_numbers functions)) 10 functions bytes rest
code_section_again types functions bytes rest all h leads =
    section_again (functions_at types (type_numbers functions)) (no_bodies (type_numbers functions)) 10 (omega arith) (omega arith)
    (functions_again types functions) bytes rest h (MaySpell-code types functions h.front h.is_first all) leads

-- ---- modules

nothing_leads : (number : ℕ) → Leads number [] []
unfolding customs_at
nothing_leads number = record { skips = none; is_section = refl }
  where
    none : Skips [] []
    none zero lt = absurd (omega arith)
    none (suc n) lt = refl

-- the last section, behind which custom ones stand alone
abbrev at_end : {V : List ℕ → Type 0} {bytes : List ℕ} → Then V Customs bytes → Then V (Then Customs (λ rest. rest ≡ [])) bytes
at_end h = record {
  front = h.front;
  back = h.back;
  is_first = h.is_first;
  is_second = record { front = h.back; back = []; is_first = h.is_second; is_second = refl; parts = sym (append-nil h.back) };
  parts = h.parts;
}

sections_again : (m : Module) (bytes : List ℕ) → SpellsSections m bytes → IsWithinLimits m → sections_at bytes ≡ Some m
unfolding sections_at filled_at remaining_at skip_customs types_at numbers_at spaces_at exports_at contents_at
sections_again m bytes h within =
    let h1 = h.is_second in
    let h2 = h1.is_second.is_second in
    let h3 = h2.is_second.is_second in
    let h4 = h3.is_second.is_second in
    let h5 = h4.is_second.is_second in
    let h6 = h5.is_second.is_second in
    let h7 = h6.is_second.is_second in
    let h8 = h7.is_second.is_second in
    let h9 = h8.is_second.is_second in
    let h10 = h9.is_second.is_second in
    let h11 = at_end h10.is_second.is_second in
    let import_count : imported_functions m.imports ≤ max_functions = omega (arith, within.count) in
    let number_count : length (type_numbers m.functions) ≤ max_functions - imported_functions m.imports =
    omega (arith, within.count, length-type_numbers m.functions) in
    let s11 = limited_again data_at SpellsData (λ d. IsBodyWithin d.offset) 11 m.data _ [] data_again within.segments (omega arith) (omega arith) h11 (nothing_leads 12) in
    let s10 = code_section_again m.types m.functions _ s11.start within.functions h10 s11.leads in
    let s9 = limited_again element_at SpellsElement (λ e. IsBodyWithin e.offset) 9 m.elements _ s10.start element_again within.elements (omega arith) (omega arith) h9 s10.leads in
    let s8 = start_section_again m.start _ s9.start h8 s9.leads in
    let s7 = items_again export_at SpellsExport 7 m.exports _ s8.start export_again (omega arith) (omega arith) h7 s8.leads in
    let s6 = limited_again global_at SpellsGlobal (λ g. IsBodyWithin g.initial) 6 m.globals _ s7.start global_again within.globals (omega arith) (omega arith) h6 s7.leads in
    let s5 = items_again limits_at SpellsLimits 5 m.memories _ s6.start limits_again (omega arith) (omega arith) h5 s6.leads in
    let s4 = items_again table_type_at SpellsTableType 4 m.tables _ s5.start table_type_again (omega arith) (omega arith) h4 s5.leads in
    let s3 = vector_section_again u32_at U32 _ 3 (type_numbers m.functions) _ s4.start u32_again number_count (omega arith) (omega arith) h3 h3.is_first s4.leads in
    let s2 = import_section_again m.imports _ s3.start import_count h2 s3.leads in
    let s1 = limited_again func_type_at SpellsFuncType IsTypeWithin 1 m.types _ s2.start func_type_again within.types (omega arith) (omega arith) h1 s2.leads in
    let skips = customs_before h.front h.back s1.start h.is_first s1.leads.skips in
    rw (h.parts, skips (suc (length (h.front ++ h.back))) (omega arith), s1.is_read, s2.is_read, s3.is_read, s4.is_read, s5.is_read, s6.is_read, s7.is_read, s8.is_read, s9.is_read, s10.is_read, s11.is_read) refl

after_magic : (rest : List ℕ) → after_bytes magic (magic ++ rest) ≡ Some rest
unfolding after_bytes
after_magic rest = refl

after_version : (rest : List ℕ) → after_bytes version (version ++ rest) ≡ Some rest
unfolding after_bytes
after_version rest = refl

pub module_again : (bytes : List ℕ) (m : Module) → Spells bytes m → module_at bytes ≡ Some m
unfolding module_at
module_again bytes m h =
    let numbered : after_bytes magic bytes ≡ Some (version ++ h.sections) = rw h.parts (after_magic (version ++ h.sections)) in
    rw (le-leb (length bytes) max_module_bytes h.small, numbered, after_version h.sections) (sections_again m h.sections h.spelled h.limited)
