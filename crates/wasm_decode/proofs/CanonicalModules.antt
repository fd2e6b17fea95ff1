-- That what is written is a spelling: sections and modules.
use Rattle.std.proofs.Common.{◌≡◌, ℕ, ◌≤◌, inl, inr, List, [], ◌∷◌, ◌++◌, length, Option, Some, None, refl, sym, ap, arith}
use Rattle.std.proofs.lemmas.List.{append-nil}
use Rattle.std.specs.List.{AllByRecursion, flat_map}
use Rattle.leb.specs.Spelling.{u32_spelling}
use Rattle.wasm_ast.specs.declared.types.FuncType.{FuncType}
use Rattle.wasm_ast.specs.declared.module.Function.{Function}
use Rattle.wasm_ast.specs.declared.module.Module.{Module}
use Rattle.wasm_ast.specs.Limits.{max_module_bytes, IsFunctionWithin, IsWithinLimits}
use Rattle.wasm_items.specs.Bytes.{U32, Vector}
use Rattle.wasm_items.specs.Canonical.{sized, vector, func_type_bytes, import_bytes, type_number_bytes, table_bytes, limits_bytes, global_bytes, export_bytes, element_bytes, data_bytes}
use Rattle.wasm_decode.specs.Grammar.{type_numbers, Customs, Section, VectorSection, StartSection, AfterCustoms, SpellsSections, Spells}
use Rattle.wasm_decode.specs.Canonical.{section, vector_section, start_section, function_bytes, sections_bytes, canonical}
use Rattle.wasm_ast.specs.Representable.{IsU32, IsOptionalU32, IsFunctionHeld, IsRepresentable}
use Rattle.wasm_items.proofs.CanonicalParts.{IsSmall, IsSpelled, u32_spelled, u32_is_spelled, some_u32, joined, behind, small_front, small_back, sized_spelled, small_sized, vector_spelled}
use Rattle.wasm_items.proofs.CanonicalInstructions.{func_type_is_spelled, some_func_type, limits_are_spelled, some_limits, table_is_spelled, all_held}
use Rattle.wasm_items.proofs.CanonicalItems.{import_is_spelled, some_import, global_is_spelled, some_global, export_is_spelled, some_export, element_is_spelled, some_element, data_is_spelled, some_data}
use Rattle.wasm_decode.proofs.CanonicalFunctions.{IsFunctionSpelled, function_is_spelled, some_function}

-- ---- sections

section_spelled : (number : ℕ) (content : List ℕ → Type 0) (bytes : List ℕ) → IsSmall (section number bytes)
    → (IsSmall bytes → content bytes) → Section number content (section number bytes)
unfolding section
section_spelled number content bytes small inside =
    let less : IsSmall (sized bytes) = omega (arith, small) in
    behind number (sized bytes) (sized_spelled content bytes less (inside (small_sized bytes less)))

section_of : {A : Type 0} (number : ℕ) (held : A → Type 0) (spelled : A → List ℕ → Type 0) (written : A → List ℕ)
    → IsSpelled held spelled written → ((x : A) → 1 ≤ length (written x))
    → (xs : List A) → AllByRecursion held xs → IsSmall (vector_section number written xs) → VectorSection number spelled xs (vector_section number written xs)
section_of number held spelled written each some [] all small = inr (refl, refl)
section_of number held spelled written each some (x ∷ xs) all small =
    inl (section_spelled number (Vector spelled (x ∷ xs)) (vector written (x ∷ xs)) small
    (λ less. vector_spelled held spelled written each some (x ∷ xs) all less))

-- the type numbers are a vector of their own
numbers_written : (fs : List Function) → flat_map type_number_bytes fs ≡ flat_map u32_spelling (type_numbers fs)
unfolding type_number_bytes
numbers_written [] = refl
numbers_written (f ∷ fs) = ap (λ (xs : List ℕ). u32_spelling f.type_number ++ xs) (numbers_written fs)

as_many : (fs : List Function) → length fs ≡ length (type_numbers fs)
as_many [] = refl
as_many (f ∷ fs) = omega (arith, as_many fs)

numbers_vector : (fs : List Function) → vector type_number_bytes fs ≡ vector u32_spelling (type_numbers fs)
unfolding vector
numbers_vector fs = rw (numbers_written fs, as_many fs) refl

pub numbers_section : (fs : List Function) → vector_section 3 type_number_bytes fs ≡ vector_section 3 u32_spelling (type_numbers fs)
numbers_section [] = refl
numbers_section (f ∷ fs) = ap (section 3) (numbers_vector (f ∷ fs))

numbers_held : (fs : List Function) → AllByRecursion IsFunctionHeld fs → AllByRecursion IsU32 (type_numbers fs)
numbers_held [] all = tt
numbers_held (f ∷ fs) all = (all.0.0, numbers_held fs all.1)

numbers_spelled : (fs : List Function) → AllByRecursion IsFunctionHeld fs → IsSmall (vector_section 3 type_number_bytes fs)
    → VectorSection 3 U32 (type_numbers fs) (vector_section 3 type_number_bytes fs)
numbers_spelled fs all small =
    rw (numbers_section fs) (section_of 3 IsU32 U32 u32_spelling u32_is_spelled some_u32 (type_numbers fs) (numbers_held fs all)
    (rw (numbers_section fs) at small))

few_locals : (types : List FuncType) (fs : List Function) → AllByRecursion IsFunctionHeld fs → AllByRecursion (IsFunctionWithin types) fs
    → AllByRecursion IsFunctionSpelled fs
few_locals types [] all within = tt
few_locals types (f ∷ fs) all within = ((all.0, omega (arith, within.0.0)), few_locals types fs all.1 within.1)

start_spelled : (start : Option ℕ) → IsOptionalU32 start → IsSmall (start_section start) → StartSection start (start_section start)
start_spelled None held small = refl
start_spelled (Some f) held small = section_spelled 8 (U32 f) (u32_spelling f) small (λ less. u32_spelled f held)

-- no custom section, a section, and the others
next : (section others : List ℕ → Type 0) (front back : List ℕ) → section front → others back → AfterCustoms section others (front ++ back)
next section others front back here after =
    record { front = []; back = front ++ back; is_first = record { contents = []; spelled = refl }; is_second = joined front back here after; parts = refl }

-- the last section, and no custom section behind it
last : (section : List ℕ → Type 0) (bytes : List ℕ) → section bytes → AfterCustoms section Customs bytes
last section bytes here =
    record {
      front = [];
      back = bytes;
      is_first = record { contents = []; spelled = refl };
      is_second = record { front = bytes; back = []; is_first = here; is_second = record { contents = []; spelled = refl }; parts = sym (append-nil bytes) };
      parts = refl;
    }

-- ---- modules

module _ (m : Module) (held : IsRepresentable m) (within : IsWithinLimits m) where
  sections_spelled : IsSmall (sections_bytes m) → SpellsSections m (sections_bytes m)
  unfolding sections_bytes
  sections_spelled small =
      let b11 = vector_section 11 data_bytes m.data in
      let b10 = vector_section 10 function_bytes m.functions ++ b11 in
      let b9 = vector_section 9 element_bytes m.elements ++ b10 in
      let b8 = start_section m.start ++ b9 in
      let b7 = vector_section 7 export_bytes m.exports ++ b8 in
      let b6 = vector_section 6 global_bytes m.globals ++ b7 in
      let b5 = vector_section 5 limits_bytes m.memories ++ b6 in
      let b4 = vector_section 4 table_bytes m.tables ++ b5 in
      let b3 = vector_section 3 type_number_bytes m.functions ++ b4 in
      let b2 = vector_section 2 import_bytes m.imports ++ b3 in
      let s2 = small_back (vector_section 1 func_type_bytes m.types) b2 small in
      let s3 = small_back (vector_section 2 import_bytes m.imports) b3 s2 in
      let s4 = small_back (vector_section 3 type_number_bytes m.functions) b4 s3 in
      let s5 = small_back (vector_section 4 table_bytes m.tables) b5 s4 in
      let s6 = small_back (vector_section 5 limits_bytes m.memories) b6 s5 in
      let s7 = small_back (vector_section 6 global_bytes m.globals) b7 s6 in
      let s8 = small_back (vector_section 7 export_bytes m.exports) b8 s7 in
      let s9 = small_back (start_section m.start) b9 s8 in
      let s10 = small_back (vector_section 9 element_bytes m.elements) b10 s9 in
      let s11 = small_back (vector_section 10 function_bytes m.functions) b11 s10 in
      next _ _ _ b2 (section_of 1 _ _ _ func_type_is_spelled some_func_type m.types (all_held m.types) (small_front _ b2 small))
      (next _ _ _ b3 (section_of 2 _ _ _ import_is_spelled some_import m.imports held.imports (small_front _ b3 s2))
      (next _ _ _ b4 (numbers_spelled m.functions held.functions (small_front _ b4 s3))
      (next _ _ _ b5 (section_of 4 _ _ _ table_is_spelled (λ l. omega arith) m.tables held.tables (small_front _ b5 s4))
      (next _ _ _ b6 (section_of 5 _ _ _ limits_are_spelled some_limits m.memories held.memories (small_front _ b6 s5))
      (next _ _ _ b7 (section_of 6 _ _ _ global_is_spelled some_global m.globals held.globals (small_front _ b7 s6))
      (next _ _ _ b8 (section_of 7 _ _ _ export_is_spelled some_export m.exports held.exports (small_front _ b8 s7))
      (next _ _ _ b9 (start_spelled m.start held.start (small_front _ b9 s8))
      (next _ _ _ b10 (section_of 9 _ _ _ element_is_spelled some_element m.elements held.elements (small_front _ b10 s9))
      (next _ _ _ b11 (section_of 10 _ _ _ function_is_spelled some_function m.functions (few_locals m.types m.functions held.functions within.functions) (small_front _ b11 s10))
      (last _ b11 (section_of 11 _ _ _ data_is_spelled some_data m.data held.segments s11)))))))))))

  pub canonical_spelled : length (canonical m) ≤ max_module_bytes → Spells (canonical m) m
  unfolding canonical
  canonical_spelled small =
      record { sections = sections_bytes m; spelled = sections_spelled (omega (arith, small)); parts = refl; small = small; limited = within }
