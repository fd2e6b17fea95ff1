-- That no spelling is shorter than the one that is written: sections and modules.
use Rattle.std.proofs.Common.{ℕ, ◌+◌, ◌≤◌, inl, inr, List, [], ◌∷◌, ◌++◌, length, Some, None, ap, arith, length-append}
use Rattle.std.specs.Bool.{⊤}
use Rattle.std.specs.List.{AllByRecursion}
use Rattle.leb.specs.Spelling.{u32_spelling}
use Rattle.wasm_ast.specs.declared.module.Function.{Function}
use Rattle.wasm_ast.specs.declared.module.Module.{Module}
use Rattle.wasm_items.specs.Bytes.{U32, Vector}
use Rattle.wasm_items.specs.Types.{SpellsFuncType, SpellsLimits, SpellsTableType}
use Rattle.wasm_items.specs.Items.{SpellsImport, SpellsGlobal, SpellsExport, SpellsElement, SpellsData}
use Rattle.wasm_items.specs.Canonical.{vector, func_type_bytes, import_bytes, type_number_bytes, table_bytes, limits_bytes, global_bytes, export_bytes, element_bytes, data_bytes}
use Rattle.wasm_decode.specs.Grammar.{SpellsFunction, type_numbers, Section, VectorSection, StartSection, AfterCustoms, SpellsSections, Spells}
use Rattle.wasm_decode.specs.Canonical.{section, vector_section, start_section, function_bytes, sections_bytes, canonical}
use Rattle.wasm_ast.specs.Representable.{IsU32, IsOptionalU32, AreLimitsHeld, IsFunctionHeld, IsImportHeld, IsGlobalHeld, IsExportHeld, IsElementHeld, IsDataHeld, IsRepresentable}
use Rattle.wasm_items.proofs.ShortestParts.{IsShortest, u32_is_shortest, Then_length, sized_shortest, vector_is_shortest}
use Rattle.wasm_items.proofs.ShortestInstructions.{behind_byte, func_type_is_shortest, limits_are_shortest, table_is_shortest}
use Rattle.wasm_items.proofs.ShortestItems.{import_is_shortest, global_is_shortest, export_is_shortest, element_is_shortest, data_is_shortest}
use Rattle.wasm_decode.proofs.ShortestFunctions.{IsBodyHeld, function_is_shortest}
use Rattle.wasm_decode.proofs.CanonicalModules.{numbers_section, canonical_spelled}

-- ---- sections

section_shortest : (number : ℕ) (content : List ℕ → Type 0) (written bytes : List ℕ) (h : Section number content bytes)
    → length written ≤ length h.is_second.inside → length (section number written) ≤ length bytes
unfolding section
section_shortest number content written bytes h le =
    omega (arith, sized_shortest content written h.back h.is_second le, behind_byte number _ bytes h)

section_is_shortest : {A : Type 0} (number : ℕ) (held : A → Type 0) (spelled : A → List ℕ → Type 0) (written : A → List ℕ)
    → IsShortest held spelled written
    → IsShortest (λ xs. AllByRecursion held xs) (λ xs bytes. VectorSection number spelled xs bytes) (λ xs. vector_section number written xs)
section_is_shortest number held spelled written each [] bytes h = (tt, omega arith)
section_is_shortest number held spelled written each (x ∷ xs) bytes (inl h) =
    let inside = vector_is_shortest held spelled written each (x ∷ xs) h.is_second.inside h.is_second.spelled in
    (inside.0, section_shortest number (Vector spelled (x ∷ xs)) (vector written (x ∷ xs)) bytes h inside.1)
section_is_shortest number held spelled written each (x ∷ xs) bytes (inr h) = absurd (cc (h.0))

start_is_shortest : IsShortest IsOptionalU32 StartSection start_section
start_is_shortest None bytes h = (tt, omega arith)
start_is_shortest (Some f) bytes h =
    let inside = u32_is_shortest f h.is_second.inside h.is_second.spelled in
    (inside.0, section_shortest 8 (U32 f) (u32_spelling f) bytes h inside.1)

numbers_shortest : (fs : List Function) (bytes : List ℕ) → VectorSection 3 U32 (type_numbers fs) bytes
    → AllByRecursion IsU32 (type_numbers fs) × (length (vector_section 3 type_number_bytes fs) ≤ length bytes)
numbers_shortest fs bytes h = rw (numbers_section fs) (section_is_shortest 3 IsU32 U32 u32_spelling u32_is_shortest (type_numbers fs) bytes h)

functions_held : (fs : List Function) → AllByRecursion IsU32 (type_numbers fs) → AllByRecursion IsBodyHeld fs → AllByRecursion IsFunctionHeld fs
functions_held [] numbers bodies = tt
functions_held (f ∷ fs) numbers bodies = ((numbers.0, bodies.0), functions_held fs numbers.1 bodies.1)

-- custom sections only add
after_length : {P Q : List ℕ → Type 0} (bytes : List ℕ) (h : AfterCustoms P Q bytes) → length h.is_second.front + length h.is_second.back ≤ length bytes
after_length bytes h = omega (arith, Then_length bytes h, Then_length h.back h.is_second)

-- this section, and those behind it
both_shortest : {P Q : List ℕ → Type 0} (bytes first others : List ℕ) (h : AfterCustoms P Q bytes)
    → length first ≤ length h.is_second.front → length others ≤ length h.is_second.back → length (first ++ others) ≤ length bytes
both_shortest bytes first others h a b = omega (arith, a, b, after_length bytes h, length-append first others)

-- ---- modules

pub record IsKept (m : Module) (bytes : List ℕ) : Type 0 where
  pub held : IsRepresentable m
  pub shortest : length (sections_bytes m) ≤ length bytes

sections_kept : (m : Module) (bytes : List ℕ) → SpellsSections m bytes → IsKept m bytes
unfolding sections_bytes
sections_kept m bytes h1 =
    let h2 = h1.is_second.is_second in
    let h3 = h2.is_second.is_second in
    let h4 = h3.is_second.is_second in
    let h5 = h4.is_second.is_second in
    let h6 = h5.is_second.is_second in
    let h7 = h6.is_second.is_second in
    let h8 = h7.is_second.is_second in
    let h9 = h8.is_second.is_second in
    let h10 = h9.is_second.is_second in
    let h11 = h10.is_second.is_second in
    let r1 = section_is_shortest 1 (λ t. ⊤) SpellsFuncType func_type_bytes func_type_is_shortest m.types _ h1.is_second.is_first in
    let r2 = section_is_shortest 2 IsImportHeld SpellsImport import_bytes import_is_shortest m.imports _ h2.is_second.is_first in
    let r3 = numbers_shortest m.functions _ h3.is_second.is_first in
    let r4 = section_is_shortest 4 AreLimitsHeld SpellsTableType table_bytes table_is_shortest m.tables _ h4.is_second.is_first in
    let r5 = section_is_shortest 5 AreLimitsHeld SpellsLimits limits_bytes limits_are_shortest m.memories _ h5.is_second.is_first in
    let r6 = section_is_shortest 6 IsGlobalHeld SpellsGlobal global_bytes global_is_shortest m.globals _ h6.is_second.is_first in
    let r7 = section_is_shortest 7 IsExportHeld SpellsExport export_bytes export_is_shortest m.exports _ h7.is_second.is_first in
    let r8 = start_is_shortest m.start _ h8.is_second.is_first in
    let r9 = section_is_shortest 9 IsElementHeld SpellsElement element_bytes element_is_shortest m.elements _ h9.is_second.is_first in
    let r10 = section_is_shortest 10 IsBodyHeld SpellsFunction function_bytes function_is_shortest m.functions _ h10.is_second.is_first in
    let r11 = section_is_shortest 11 IsDataHeld SpellsData data_bytes data_is_shortest m.data _ h11.is_second.is_first in
    let s11 : length (vector_section 11 data_bytes m.data) ≤ length h10.is_second.back = omega (arith, r11.1, after_length _ h11) in
    record {
      held = record {
        imports = r2.0;
        functions = functions_held m.functions r3.0 r10.0;
        tables = r4.0;
        memories = r5.0;
        globals = r6.0;
        exports = r7.0;
        start = r8.0;
        elements = r9.0;
        segments = r11.0;
      };
      shortest =
          both_shortest bytes _ _ h1 r1.1 (both_shortest _ _ _ h2 r2.1 (both_shortest _ _ _ h3 r3.1 (both_shortest _ _ _ h4 r4.1
          (both_shortest _ _ _ h5 r5.1 (both_shortest _ _ _ h6 r6.1 (both_shortest _ _ _ h7 r7.1 (both_shortest _ _ _ h8 r8.1
          (both_shortest _ _ _ h9 r9.1 (both_shortest _ _ _ h10 r10.1 s11)))))))));
    }

pub spelled_is_held : (m : Module) (bytes : List ℕ) → Spells bytes m → IsRepresentable m
spelled_is_held m bytes h = (sections_kept m h.sections h.spelled).held

pub canonical_shortest : (m : Module) (bytes : List ℕ) → Spells bytes m → length (canonical m) ≤ length bytes
unfolding canonical
canonical_shortest m bytes h =
    omega (arith, (sections_kept m h.sections h.spelled).shortest, ap length h.parts)

-- what has a spelling has the canonical one
pub respelled : (m : Module) (bytes : List ℕ) → Spells bytes m → Spells (canonical m) m
respelled m bytes h = canonical_spelled m (spelled_is_held m bytes h) h.limited (omega (arith, canonical_shortest m bytes h, h.small))
