-- That what is written is a spelling: what the sections hold.
use Rattle.std.proofs.Common.{◌≤◌, ◌++◌, length, arith, length-append}
use Rattle.leb.specs.Spelling.{u32_spelling}
use Rattle.wasm_ast.specs.declared.module.ImportDescription.{ImportDescription}
use Rattle.wasm_ast.specs.declared.module.ImportDescription.TheVariants as import
use Rattle.wasm_ast.specs.declared.module.Import.{Import}
use Rattle.wasm_ast.specs.declared.module.Function.{Function}
use Rattle.wasm_ast.specs.declared.module.Global.{Global}
use Rattle.wasm_ast.specs.declared.module.ExportDescription.{ExportDescription}
use Rattle.wasm_ast.specs.declared.module.ExportDescription.TheVariants as export
use Rattle.wasm_ast.specs.declared.module.Export.{Export}
use Rattle.wasm_ast.specs.declared.module.Element.{Element}
use Rattle.wasm_ast.specs.declared.module.Data.{Data}
use Rattle.wasm_items.specs.Bytes.{U32}
use Rattle.wasm_items.specs.Items.{SpellsImportDescription, SpellsImport, SpellsGlobal, SpellsExportDescription, SpellsExport, SpellsElement, SpellsData}
use Rattle.wasm_items.specs.Canonical.{sized, vector, limits_bytes, table_bytes, global_type_bytes, expression_bytes, import_description_bytes, import_bytes, global_bytes, export_description_bytes, export_bytes, element_bytes, data_bytes}
use Rattle.wasm_ast.specs.Representable.{IsU32, IsImportDescriptionHeld, IsImportHeld, IsGlobalHeld, IsExportDescriptionHeld, IsExportHeld, IsElementHeld, IsDataHeld}
use Rattle.wasm_items.proofs.CanonicalParts.{IsSmall, IsSpelled, u32_spelled, u32_is_spelled, some_u32, joined, behind, small_front, small_back, some_sized, bytes_spelled, name_spelled, vector_spelled}
use Rattle.wasm_items.proofs.CanonicalInstructions.{limits_are_spelled, table_is_spelled, global_type_spelled, expression_is_spelled}

-- ---- imports, globals, exports, elements and data

import_description_spelled : (d : ImportDescription) → IsImportDescriptionHeld d → IsSmall (import_description_bytes d)
    → SpellsImportDescription d (import_description_bytes d)
import_description_spelled (import.Function t) held small = behind 0x00 (u32_spelling t) (u32_spelled t held)
import_description_spelled (import.Table l) held small = behind 0x01 (table_bytes l) (table_is_spelled l held (omega (arith, small)))
import_description_spelled (import.Memory l) held small = behind 0x02 (limits_bytes l) (limits_are_spelled l held (omega (arith, small)))
import_description_spelled (import.Global t) held small = behind 0x03 (global_type_bytes t) (global_type_spelled t)

pub import_is_spelled : IsSpelled IsImportHeld SpellsImport import_bytes
unfolding import_bytes
import_is_spelled i held small =
    let description = import_description_bytes i.description in
    let after = sized i.name ++ description in
    let less = small_back (sized i.module) after small in
    joined (sized i.module) after (name_spelled i.module held.0 (small_front (sized i.module) after small))
    (joined (sized i.name) description (name_spelled i.name held.1 (small_front (sized i.name) description less))
    (import_description_spelled i.description held.2 (small_back (sized i.name) description less)))

pub some_import : (i : Import) → 1 ≤ length (import_bytes i)
unfolding import_bytes
some_import i = omega (arith, some_sized i.module, length-append (sized i.module) (sized i.name ++ import_description_bytes i.description))

pub global_is_spelled : IsSpelled IsGlobalHeld SpellsGlobal global_bytes
unfolding global_bytes
global_is_spelled g held small =
    let front = global_type_bytes g.global_type in
    let back = expression_bytes g.initial in
    joined front back (global_type_spelled g.global_type) (expression_is_spelled g.initial held (small_back front back small))

pub some_global : (g : Global) → 1 ≤ length (global_bytes g)
unfolding global_bytes
some_global g = omega arith

export_description_spelled : (d : ExportDescription) → IsExportDescriptionHeld d → SpellsExportDescription d (export_description_bytes d)
export_description_spelled (export.Function x) held = behind 0x00 (u32_spelling x) (u32_spelled x held)
export_description_spelled (export.Table x) held = behind 0x01 (u32_spelling x) (u32_spelled x held)
export_description_spelled (export.Memory x) held = behind 0x02 (u32_spelling x) (u32_spelled x held)
export_description_spelled (export.Global x) held = behind 0x03 (u32_spelling x) (u32_spelled x held)

pub export_is_spelled : IsSpelled IsExportHeld SpellsExport export_bytes
unfolding export_bytes
export_is_spelled e held small =
    let back = export_description_bytes e.description in
    joined (sized e.name) back (name_spelled e.name held.0 (small_front (sized e.name) back small)) (export_description_spelled e.description held.1)

pub some_export : (e : Export) → 1 ≤ length (export_bytes e)
unfolding export_bytes
some_export e = omega (arith, some_sized e.name, length-append (sized e.name) (export_description_bytes e.description))

pub element_is_spelled : IsSpelled IsElementHeld SpellsElement element_bytes
unfolding element_bytes
element_is_spelled e held small =
    let table = u32_spelling e.table in
    let offset = expression_bytes e.offset in
    let functions = vector u32_spelling e.functions in
    let less = small_back table (offset ++ functions) small in
    joined table (offset ++ functions) (u32_spelled e.table held.0)
    (joined offset functions (expression_is_spelled e.offset held.1 (small_front offset functions less))
    (vector_spelled IsU32 U32 u32_spelling u32_is_spelled some_u32 e.functions held.2 (small_back offset functions less)))

pub some_element : (e : Element) → 1 ≤ length (element_bytes e)
unfolding element_bytes
some_element e =
    omega (arith, some_u32 e.table, length-append (u32_spelling e.table) (expression_bytes e.offset ++ vector u32_spelling e.functions))

pub data_is_spelled : IsSpelled IsDataHeld SpellsData data_bytes
unfolding data_bytes
data_is_spelled d held small =
    let memory = u32_spelling d.memory in
    let offset = expression_bytes d.offset in
    let less = small_back memory (offset ++ sized d.bytes) small in
    joined memory (offset ++ sized d.bytes) (u32_spelled d.memory held.0)
    (joined offset (sized d.bytes) (expression_is_spelled d.offset held.1 (small_front offset (sized d.bytes) less))
    (record { are_bytes = held.2; spelled = bytes_spelled d.bytes (small_back offset (sized d.bytes) less) }))

pub some_data : (d : Data) → 1 ≤ length (data_bytes d)
unfolding data_bytes
some_data d = omega (arith, some_u32 d.memory, length-append (u32_spelling d.memory) (expression_bytes d.offset ++ sized d.bytes))
