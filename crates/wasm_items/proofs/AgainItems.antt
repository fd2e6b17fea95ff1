-- What is spelled so, and within limits, is read: what the sections hold.
use Rattle.std.proofs.Common.{refl}
use Rattle.wasm_ast.specs.declared.module.ImportDescription.TheVariants as import
use Rattle.wasm_ast.specs.declared.module.ExportDescription.TheVariants as export
use Rattle.wasm_ast.specs.Limits.{IsBodyWithin}
use Rattle.wasm_items.specs.Bytes.{U32}
use Rattle.wasm_items.specs.Items.{SpellsImportDescription, SpellsImport, SpellsGlobal, SpellsExportDescription, SpellsExport, SpellsElement, SpellsData}
use Rattle.wasm_items.specs.inside.Reading.{byte_at, u32_at, name_at, any_count, global_type_at}
use Rattle.wasm_items.specs.inside.ReadingCode.{expression_at}
use Rattle.wasm_items.specs.inside.ReadingItems.{import_of, import_description_at, import_at, global_at, export_description_at, export_at, element_at, data_at}
use Rattle.wasm_items.proofs.AgainCode.{expression_again}
use Rattle.wasm_items.proofs.AgainParts.{byte_again, u32_again, vector_again, length-Vector, bytes_again, name_again, limits_again, table_type_again, global_type_again}
use Rattle.wasm_items.proofs.Tools.{Within, IsComplete, Then_again}

-- ---- imports and exports

import_description_again : IsComplete import_description_at SpellsImportDescription
unfolding import_description_at import_of
import_description_again (import.Function t) front rest h =
    Then_again byte_at _ rest 0x00 (byte_again 0x00) h (rw (u32_again t h.back rest h.is_second) refl)
import_description_again (import.Table l) front rest h =
    Then_again byte_at _ rest 0x01 (byte_again 0x01) h (rw (table_type_again l h.back rest h.is_second) refl)
import_description_again (import.Memory l) front rest h =
    Then_again byte_at _ rest 0x02 (byte_again 0x02) h (rw (limits_again l h.back rest h.is_second) refl)
import_description_again (import.Global t) front rest h =
    Then_again byte_at _ rest 0x03 (byte_again 0x03) h (rw (global_type_again t h.back rest h.is_second) refl)

pub import_again : IsComplete import_at SpellsImport
unfolding import_at
import_again i front rest h =
    Then_again name_at _ rest i.module (name_again i.module) h
    (Then_again name_at _ rest i.name (name_again i.name) h.is_second
    (rw (import_description_again i.description h.is_second.back rest h.is_second.is_second) refl))

export_description_again : IsComplete export_description_at SpellsExportDescription
unfolding export_description_at
export_description_again (export.Function x) front rest h =
    Then_again byte_at _ rest 0x00 (byte_again 0x00) h (rw (u32_again x h.back rest h.is_second) refl)
export_description_again (export.Table x) front rest h =
    Then_again byte_at _ rest 0x01 (byte_again 0x01) h (rw (u32_again x h.back rest h.is_second) refl)
export_description_again (export.Memory x) front rest h =
    Then_again byte_at _ rest 0x02 (byte_again 0x02) h (rw (u32_again x h.back rest h.is_second) refl)
export_description_again (export.Global x) front rest h =
    Then_again byte_at _ rest 0x03 (byte_again 0x03) h (rw (u32_again x h.back rest h.is_second) refl)

pub export_again : IsComplete export_at SpellsExport
unfolding export_at
export_again e front rest h =
    Then_again name_at _ rest e.name (name_again e.name) h
    (rw (export_description_again e.description h.back rest h.is_second) refl)

-- ---- globals, elements and data

pub global_again : IsComplete global_at (Within SpellsGlobal (λ g. IsBodyWithin g.initial))
unfolding global_at
global_again g front rest h =
    let s = h.0 in
    Then_again global_type_at _ rest g.global_type (global_type_again g.global_type) s
    (rw (expression_again g.initial s.back rest (s.is_second, h.1)) refl)

pub element_again : IsComplete element_at (Within SpellsElement (λ e. IsBodyWithin e.offset))
unfolding element_at
element_again e front rest h =
    let s = h.0.is_second in
    let count = length-Vector U32 e.functions s.back s.is_second in
    Then_again u32_at _ rest e.table (u32_again e.table) h.0
    (Then_again expression_at _ rest e.offset (λ f r t. expression_again e.offset f r (t, h.1)) s
    (rw (vector_again u32_at U32 u32_again any_count e.functions count s.back rest s.is_second) refl))

pub data_again : IsComplete data_at (Within SpellsData (λ d. IsBodyWithin d.offset))
unfolding data_at
data_again d front rest h =
    let s = h.0.is_second in
    Then_again u32_at _ rest d.memory (u32_again d.memory) h.0
    (Then_again expression_at _ rest d.offset (λ f r t. expression_again d.offset f r (t, h.1)) s
    (rw (bytes_again d.bytes s.back rest s.is_second.spelled) refl))
