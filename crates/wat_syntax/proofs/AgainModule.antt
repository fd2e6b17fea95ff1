-- What is printed is read again: modules.
use Rattle.std.proofs.Common.{◌≡◌, ℕ, ◌+◌, ◌-◌, ◌<◌, ◌≤◌, false, List, [], ◌∷◌, length, Option, Some, None, refl, ◌∙◌, arith}
use Rattle.std.specs.List.{AllByRecursion}
use Rattle.wasm_ast.specs.declared.types.FuncType.{FuncType}
use Rattle.wasm_ast.specs.declared.types.Limits.{Limits}
use Rattle.wasm_ast.specs.declared.module.Import.{Import}
use Rattle.wasm_ast.specs.declared.module.Function.{Function}
use Rattle.wasm_ast.specs.declared.module.Global.{Global}
use Rattle.wasm_ast.specs.declared.module.Export.{Export}
use Rattle.wasm_ast.specs.declared.module.Element.{Element}
use Rattle.wasm_ast.specs.declared.module.Data.{Data}
use Rattle.wasm_ast.specs.declared.module.Module.{Module}
use Rattle.wasm_ast.specs.Code.{size_of}
use Rattle.wasm_ast.specs.Limits.{max_labels, max_locals, IsBodyWithin, IsTypeWithin, IsFunctionWithin, IsWithinLimits}
use Rattle.wasm_ast.specs.Modules.{empty_module}
use Rattle.wasm_ast.specs.Representable.{IsOptionalU32, AreLimitsHeld, IsImportHeld, IsFunctionHeld, IsGlobalHeld, IsExportHeld, IsElementHeld, IsDataHeld, IsRepresentable}
use Rattle.wat_syntax.specs.Pieces.{Piece, each}
use Rattle.wat_syntax.specs.Pieces as piece
use Rattle.wat_syntax.specs.Layout.{type_field, import_field, function_field, table_field, memory_field, global_field, export_field, start_field, element_field, data_field, uses, pieces}
use Rattle.wat_syntax.specs.inside.Tokens.{sorted}
use Rattle.wat_syntax.specs.inside.Tokens as tok
use Rattle.wat_syntax.specs.inside.Reading.{repeated, opened_at, closed_at}
use Rattle.wat_syntax.specs.inside.ReadingModule.{Making, field_at, field_first, field_step, fields_at, goes_on_with_type, module_open_at, whole_at, only_at, module_at}
use Rattle.wat_syntax.proofs.AgainTools.{unnamed_again, step_again, stop_again, items_again, each_first, all_map, all_within, total}
use Rattle.wat_syntax.proofs.AgainTypes.{number_again, types_again}
use Rattle.wat_syntax.proofs.AgainFields.{IsFunctionFine, IsGlobalFine, IsElementFine, IsDataFine, import_again, function_again, table_again, memory_again, global_again, export_again, element_again, segment_again}
pub use Rattle.wat_syntax.proofs.AgainHeld.{pieces_held}

-- ---- so many steps are enough

-- each repetition has at most so many steps: `max_locals` is the limit of parameters, results, locals and labels
abbrev pub steps_of : Module → ℕ
steps_of m =
    1 + max_locals + length m.types + length m.imports + length m.functions + length m.tables + length m.memories + length m.globals + length m.exports + length m.elements + length m.data
    + total (λ (f : Function). size_of f.body) m.functions + total (λ (g : Global). size_of g.initial) m.globals
    + total (λ (e : Element). size_of e.offset + length e.functions) m.elements + total (λ (d : Data). size_of d.offset) m.data

-- a module that so many steps read
record IsFine (n : ℕ) (m : Module) : Type 0 where
  labels : max_labels < n
  fields : length m.types + length m.imports + length m.functions + length m.tables + length m.memories + length m.globals + length m.exports + length m.elements + length m.data + 1 < n
  types : AllByRecursion (λ (t : FuncType). (length t.parameters < n) × (length t.results < n)) m.types
  imports : AllByRecursion IsImportHeld m.imports
  functions : AllByRecursion (IsFunctionFine n) m.functions
  tables : AllByRecursion AreLimitsHeld m.tables
  memories : AllByRecursion AreLimitsHeld m.memories
  globals : AllByRecursion (IsGlobalFine n) m.globals
  exports : AllByRecursion IsExportHeld m.exports
  start : IsOptionalU32 m.start
  elements : AllByRecursion (IsElementFine n) m.elements
  segments : AllByRecursion (IsDataFine n) m.data

module _ (n : ℕ) (enough : max_locals < n) where
  type_fine : (t : FuncType) → IsTypeWithin t → (length t.parameters < n) × (length t.results < n)
  type_fine t w = (omega (arith, w.0, enough), omega (arith, w.1, enough))

  functions_fine : (types : List FuncType) (fs : List Function) → AllByRecursion IsFunctionHeld fs → AllByRecursion (IsFunctionWithin types) fs
      → AllByRecursion (λ (f : Function). size_of f.body ≤ n) fs → AllByRecursion (IsFunctionFine n) fs
  functions_fine types [] h w s = tt
  functions_fine types (f ∷ fs) h w s =
      let few : length f.locals < n = omega (arith, w.0.0, enough) in
      ((h.0, few, w.0.1, s.0), functions_fine types fs h.1 w.1 s.1)

globals_fine : (n : ℕ) (gs : List Global) → AllByRecursion IsGlobalHeld gs → AllByRecursion (λ (g : Global). IsBodyWithin g.initial) gs
    → AllByRecursion (λ (g : Global). size_of g.initial ≤ n) gs → AllByRecursion (IsGlobalFine n) gs
globals_fine n [] h w s = tt
globals_fine n (g ∷ gs) h w s = ((h.0, w.0, s.0), globals_fine n gs h.1 w.1 s.1)

elements_fine : (n : ℕ) (es : List Element) → AllByRecursion IsElementHeld es → AllByRecursion (λ (e : Element). IsBodyWithin e.offset) es
    → AllByRecursion (λ (e : Element). size_of e.offset + length e.functions ≤ n - 1) es → 1 ≤ n → AllByRecursion (IsElementFine n) es
elements_fine n [] h w s some = tt
elements_fine n (e ∷ es) h w s some =
    let size : size_of e.offset ≤ n = omega (arith, s.0) in
    let few : length e.functions < n = omega (arith, s.0, some) in
    ((h.0, w.0, size, few), elements_fine n es h.1 w.1 s.1 some)

segments_fine : (n : ℕ) (ds : List Data) → AllByRecursion IsDataHeld ds → AllByRecursion (λ (d : Data). IsBodyWithin d.offset) ds
    → AllByRecursion (λ (d : Data). size_of d.offset ≤ n) ds → AllByRecursion (IsDataFine n) ds
segments_fine n [] h w s = tt
segments_fine n (d ∷ ds) h w s = ((h.0, w.0, s.0), segments_fine n ds h.1 w.1 s.1)

is_fine : (m : Module) (n : ℕ) → IsRepresentable m → IsWithinLimits m → steps_of m ≤ n → IsFine n m
is_fine m n h w le =
    let enough : max_locals < n = omega arith in
    record {
      labels = enough;
      fields = omega arith;
      types = all_map IsTypeWithin (λ (t : FuncType). (length t.parameters < n) × (length t.results < n)) (type_fine n enough) m.types w.types;
      imports = h.imports;
      functions = functions_fine n enough m.types m.functions h.functions w.functions (all_within (λ (f : Function). size_of f.body) m.functions n (omega arith));
      tables = h.tables;
      memories = h.memories;
      globals = globals_fine n m.globals h.globals w.globals (all_within (λ (g : Global). size_of g.initial) m.globals n (omega arith));
      exports = h.exports;
      start = h.start;
      elements = elements_fine n m.elements h.elements w.elements (all_within (λ (e : Element). size_of e.offset + length e.functions) m.elements (n - 1) (omega arith)) (omega arith);
      segments = segments_fine n m.data h.segments w.segments (all_within (λ (d : Data). size_of d.offset) m.data n (omega arith));
    }

-- ---- the module in the making behind each group of fields

abbrev with_imports : Module → List Import → Module
with_imports m xs = record empty_module { imports = xs }

abbrev with_functions : Module → List Function → Module
with_functions m xs = record (with_imports m m.imports) { functions = xs }

abbrev with_tables : Module → List Limits → Module
with_tables m xs = record (with_functions m m.functions) { tables = xs }

abbrev with_memories : Module → List Limits → Module
with_memories m xs = record (with_tables m m.tables) { memories = xs }

abbrev with_globals : Module → List Global → Module
with_globals m xs = record (with_memories m m.memories) { globals = xs }

abbrev with_exports : Module → List Export → Module
with_exports m xs = record (with_globals m m.globals) { exports = xs }

abbrev with_starts : Module → Option ℕ → Module
with_starts m x = record (with_exports m m.exports) { start = x }

abbrev with_elements : Module → List Element → Module
with_elements m xs = record (with_starts m m.start) { elements = xs }

abbrev with_segments : Module → List Data → Module
with_segments m xs = record (with_elements m m.elements) { «data» = xs }

abbrev start_count : Option ℕ → ℕ
start_count None = 0
start_count (Some n) = 1

start_again : (n k : ℕ) (m : Module) (start : Option ℕ) (more : List Piece) → IsOptionalU32 start → start_count start ≤ k
    → repeated field_first (field_step n) k (with_starts m None, (sorted (start_field start more), m.types)) ≡ repeated field_first (field_step n) (k - start_count start) (with_starts m start, (sorted more, m.types))
unfolding field_first field_step opened_at field_at closed_at
start_again n k m None more h le =
    let same : k - 0 ≡ k = omega arith in
    rw same refl
start_again n k m (Some x) more h le =
    step_again field_first (field_step n) k (with_starts m None, (sorted (start_field (Some x) more), m.types)) (with_starts m (Some x), (sorted more, m.types)) (omega arith)
    refl (rw (number_again x (tok.closes ∷ sorted more) m.types h) refl)

-- fields of one kind, of a module that is in the making so
abbrev Place : {A : Type 0} → Module → (List A → Module) → List A → List Piece → Making
Place m made xs ps = (made xs, (sorted ps, m.types))

module _ (n : ℕ) (m : Module) (fine : IsFine n m) where
  -- each group of fields in so many steps
  abbrev Goes : (before after : Making) → (k count : ℕ) → Type 0
  Goes before after k count = repeated field_first (field_step n) k before ≡ repeated field_first (field_step n) (k - count) after

  imports_go : (k : ℕ) (more : List Piece) → length m.imports ≤ k → Goes (Place m (with_imports m) [] (each import_field m.imports more)) (Place m (with_imports m) m.imports more) k (length m.imports)
  unfolding field_first
  imports_go k more le =
      items_again field_first (field_step n) import_field IsImportHeld (Place m (with_imports m))
      (λ front x after. refl) (λ front x after h. import_again n (with_imports m front) x after m.types refl h) m.imports [] k more fine.imports le

  functions_go : (k : ℕ) (more : List Piece) → length m.functions ≤ k → Goes (Place m (with_functions m) [] (each function_field m.functions more)) (Place m (with_functions m) m.functions more) k (length m.functions)
  unfolding field_first
  functions_go k more le =
      items_again field_first (field_step n) function_field (IsFunctionFine n) (Place m (with_functions m))
      (λ front x after. refl) (λ front x after h. function_again n (with_functions m front) x after m.types fine.labels h) m.functions [] k more fine.functions le

  tables_go : (k : ℕ) (more : List Piece) → length m.tables ≤ k → Goes (Place m (with_tables m) [] (each table_field m.tables more)) (Place m (with_tables m) m.tables more) k (length m.tables)
  unfolding field_first
  tables_go k more le =
      items_again field_first (field_step n) table_field AreLimitsHeld (Place m (with_tables m))
      (λ front x after. refl) (λ front x after h. table_again n (with_tables m front) x after m.types h) m.tables [] k more fine.tables le

  memories_go : (k : ℕ) (more : List Piece) → length m.memories ≤ k → Goes (Place m (with_memories m) [] (each memory_field m.memories more)) (Place m (with_memories m) m.memories more) k (length m.memories)
  unfolding field_first
  memories_go k more le =
      items_again field_first (field_step n) memory_field AreLimitsHeld (Place m (with_memories m))
      (λ front x after. refl) (λ front x after h. memory_again n (with_memories m front) x after m.types h) m.memories [] k more fine.memories le

  globals_go : (k : ℕ) (more : List Piece) → length m.globals ≤ k → Goes (Place m (with_globals m) [] (each global_field m.globals more)) (Place m (with_globals m) m.globals more) k (length m.globals)
  unfolding field_first
  globals_go k more le =
      items_again field_first (field_step n) global_field (IsGlobalFine n) (Place m (with_globals m))
      (λ front x after. refl) (λ front x after h. global_again n (with_globals m front) x after m.types fine.labels h) m.globals [] k more fine.globals le

  exports_go : (k : ℕ) (more : List Piece) → length m.exports ≤ k → Goes (Place m (with_exports m) [] (each export_field m.exports more)) (Place m (with_exports m) m.exports more) k (length m.exports)
  unfolding field_first
  exports_go k more le =
      items_again field_first (field_step n) export_field IsExportHeld (Place m (with_exports m))
      (λ front x after. refl) (λ front x after h. export_again n (with_exports m front) x after m.types h) m.exports [] k more fine.exports le

  elements_go : (k : ℕ) (more : List Piece) → length m.elements ≤ k → Goes (Place m (with_elements m) [] (each element_field m.elements more)) (Place m (with_elements m) m.elements more) k (length m.elements)
  unfolding field_first
  elements_go k more le =
      items_again field_first (field_step n) element_field (IsElementFine n) (Place m (with_elements m))
      (λ front x after. refl) (λ front x after h. element_again n (with_elements m front) x after m.types fine.labels h) m.elements [] k more fine.elements le

  segments_go : (k : ℕ) (more : List Piece) → length m.data ≤ k → Goes (Place m (with_segments m) [] (each data_field m.data more)) (Place m (with_segments m) m.data more) k (length m.data)
  unfolding field_first
  segments_go k more le =
      items_again field_first (field_step n) data_field (IsDataFine n) (Place m (with_segments m))
      (λ front x after. refl) (λ front x after h. segment_again n (with_segments m front) x after m.types fine.labels h) m.data [] k more fine.segments le

  start_small : start_count m.start ≤ 1
  start_small = small m.start
    where
      small : (s : Option ℕ) → start_count s ≤ 1
      small None = omega arith
      small (Some x) = omega arith

  uses_again : (k : ℕ) (more : List Piece) → length m.exports + length m.elements + length m.data + 1 < k → field_first (sorted more) ≡ Some false
      → repeated field_first (field_step n) k (with_globals m m.globals, (sorted (uses m more), m.types)) ≡ Some (with_segments m m.data, (sorted more, m.types))
  uses_again k more lt off =
      let small = start_small in
      let d : List Piece = each data_field m.data more in
      let e : List Piece = each element_field m.elements d in
      let s : List Piece = start_field m.start e in
      let k1 : ℕ = k - length m.exports in
      let k2 : ℕ = k1 - start_count m.start in
      let k3 : ℕ = k2 - length m.elements in
      exports_go k s (omega arith)
      ∙ start_again n k1 m m.start e fine.start (omega arith)
      ∙ elements_go k2 d (omega arith)
      ∙ segments_go k3 more (omega arith)
      ∙ stop_again field_first (field_step n) (k3 - length m.data) (with_segments m m.data, (sorted more, m.types)) (omega arith) off

  fields_again : (more : List Piece) → field_first (sorted more) ≡ Some false
      → fields_at n (empty_module, (sorted (each import_field m.imports (each function_field m.functions (each table_field m.tables (each memory_field m.memories (each global_field m.globals (uses m more)))))), m.types))
      ≡ Some (with_segments m m.data, (sorted more, m.types))
  unfolding fields_at
  fields_again more off =
      let all = fine.fields in
      let u : List Piece = uses m more in
      let g : List Piece = each global_field m.globals u in
      let me : List Piece = each memory_field m.memories g in
      let t : List Piece = each table_field m.tables me in
      let f : List Piece = each function_field m.functions t in
      let k1 : ℕ = n - length m.imports in
      let k2 : ℕ = k1 - length m.functions in
      let k3 : ℕ = k2 - length m.tables in
      let k4 : ℕ = k3 - length m.memories in
      let k5 : ℕ = k4 - length m.globals in
      imports_go n f (omega arith)
      ∙ functions_go k1 t (omega arith)
      ∙ tables_go k2 me (omega arith)
      ∙ memories_go k3 g (omega arith)
      ∙ globals_go k4 u (omega arith)
      ∙ uses_again k5 more (omega arith) off

  -- behind the types no type stands
  types_stop : (more : List Piece) → goes_on_with_type (sorted more) ≡ Some false
      → goes_on_with_type (sorted (each import_field m.imports (each function_field m.functions (each table_field m.tables (each memory_field m.memories (each global_field m.globals (uses m more))))))) ≡ Some false
  types_stop more off =
      each_first goes_on_with_type (Some false) import_field (λ x ps. refl) m.imports _
      (each_first goes_on_with_type (Some false) function_field (λ x ps. refl) m.functions _
      (each_first goes_on_with_type (Some false) table_field (λ x ps. refl) m.tables _
      (each_first goes_on_with_type (Some false) memory_field (λ x ps. refl) m.memories _
      (each_first goes_on_with_type (Some false) global_field (λ x ps. refl) m.globals _
      (each_first goes_on_with_type (Some false) export_field (λ x ps. refl) m.exports _
      (start_stops m.start _
      (each_first goes_on_with_type (Some false) element_field (λ x ps. refl) m.elements _
      (each_first goes_on_with_type (Some false) data_field (λ x ps. refl) m.data _ off))))))))
    where
      start_stops : (s : Option ℕ) (ps : List Piece) → goes_on_with_type (sorted ps) ≡ Some false → goes_on_with_type (sorted (start_field s ps)) ≡ Some false
      start_stops None ps e = e
      start_stops (Some x) ps e = refl

  whole_again : whole_at n (empty_module, (sorted (pieces m []), [])) ≡ Some (with_segments m m.data, ([], m.types))
  unfolding whole_at module_open_at closed_at field_first
  whole_again =
      let ended : List Piece = piece.closes_line 0 ∷ [] in
      let after : List Piece = each import_field m.imports (each function_field m.functions (each table_field m.tables (each memory_field m.memories (each global_field m.globals (uses m ended))))) in
      rw (unnamed_again (each type_field m.types after) [], types_again m.types n after fine.types (omega (arith, fine.fields)) (types_stop ended refl), fields_again ended refl) refl

-- what is printed of a module is read as that module, where a repetition may take as many steps as it has
pub module_again : (m : Module) → IsRepresentable m → IsWithinLimits m → (n : ℕ) → steps_of m ≤ n → module_at n (sorted (pieces m [])) ≡ Some m
unfolding module_at only_at
module_again m h w n le = rw (whole_again n m (is_fine m n h w le)) refl
