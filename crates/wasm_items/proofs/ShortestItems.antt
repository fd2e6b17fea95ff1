-- That no spelling is shorter than the one that is written: what the sections hold.
use Rattle.std.proofs.Common.{◌++◌, arith, length-append}
use Rattle.leb.specs.Spelling.{u32_spelling}
use Rattle.wasm_ast.specs.declared.module.ImportDescription.TheVariants as import
use Rattle.wasm_ast.specs.declared.module.Function.{Function}
use Rattle.wasm_ast.specs.declared.module.ExportDescription.TheVariants as export
use Rattle.wasm_items.specs.Bytes.{U32}
use Rattle.wasm_items.specs.Items.{SpellsImportDescription, SpellsImport, SpellsGlobal, SpellsExportDescription, SpellsExport, SpellsElement, SpellsData}
use Rattle.wasm_items.specs.Canonical.{sized, vector, global_type_bytes, expression_bytes, import_description_bytes, import_bytes, global_bytes, export_description_bytes, export_bytes, element_bytes, data_bytes}
use Rattle.wasm_ast.specs.Representable.{IsU32, IsImportDescriptionHeld, IsImportHeld, IsGlobalHeld, IsExportDescriptionHeld, IsExportHeld, IsElementHeld, IsDataHeld}
use Rattle.wasm_items.proofs.ShortestParts.{IsShortest, u32_is_shortest, Then_length, bytes_shortest, name_is_shortest, vector_is_shortest}
use Rattle.wasm_items.proofs.ShortestInstructions.{behind_byte, limits_are_shortest, table_is_shortest, global_type_shortest, numbered_shortest, expression_is_shortest}

import_description_is_shortest : IsShortest IsImportDescriptionHeld SpellsImportDescription import_description_bytes
import_description_is_shortest (import.Function t) bytes h = numbered_shortest 0x00 t bytes h
import_description_is_shortest (import.Table l) bytes h =
    let r = table_is_shortest l h.back h.is_second in
    (r.0, omega (arith, r.1, behind_byte 0x01 _ bytes h))
import_description_is_shortest (import.Memory l) bytes h =
    let r = limits_are_shortest l h.back h.is_second in
    (r.0, omega (arith, r.1, behind_byte 0x02 _ bytes h))
import_description_is_shortest (import.Global t) bytes h =
    (tt, omega (arith, global_type_shortest t h.back h.is_second, behind_byte 0x03 _ bytes h))

pub import_is_shortest : IsShortest IsImportHeld SpellsImport import_bytes
unfolding import_bytes
import_is_shortest i bytes h =
    let both = h.is_second in
    let from = name_is_shortest i.module h.front h.is_first in
    let name = name_is_shortest i.name both.front both.is_first in
    let what = import_description_is_shortest i.description both.back both.is_second in (
      (from.0, name.0, what.0),
      omega (
        arith,
        from.1,
        name.1,
        what.1,
        Then_length bytes h,
        Then_length h.back both,
        length-append (sized i.module) (sized i.name ++ import_description_bytes i.description),
        length-append (sized i.name) (import_description_bytes i.description),
      ),
    )

pub global_is_shortest : IsShortest IsGlobalHeld SpellsGlobal global_bytes
unfolding global_bytes
global_is_shortest g bytes h =
    let initial = expression_is_shortest g.initial h.back h.is_second in
    (initial.0, omega (arith, initial.1, global_type_shortest g.global_type h.front h.is_first, Then_length bytes h, length-append (global_type_bytes g.global_type) (expression_bytes g.initial)))

export_description_is_shortest : IsShortest IsExportDescriptionHeld SpellsExportDescription export_description_bytes
export_description_is_shortest (export.Function x) bytes h = numbered_shortest 0x00 x bytes h
export_description_is_shortest (export.Table x) bytes h = numbered_shortest 0x01 x bytes h
export_description_is_shortest (export.Memory x) bytes h = numbered_shortest 0x02 x bytes h
export_description_is_shortest (export.Global x) bytes h = numbered_shortest 0x03 x bytes h

pub export_is_shortest : IsShortest IsExportHeld SpellsExport export_bytes
unfolding export_bytes
export_is_shortest e bytes h =
    let name = name_is_shortest e.name h.front h.is_first in
    let what = export_description_is_shortest e.description h.back h.is_second in
    ((name.0, what.0), omega (arith, name.1, what.1, Then_length bytes h, length-append (sized e.name) (export_description_bytes e.description)))

pub element_is_shortest : IsShortest IsElementHeld SpellsElement element_bytes
unfolding element_bytes
element_is_shortest e bytes h =
    let both = h.is_second in
    let table = u32_is_shortest e.table h.front h.is_first in
    let offset = expression_is_shortest e.offset both.front both.is_first in
    let functions = vector_is_shortest IsU32 U32 u32_spelling u32_is_shortest e.functions both.back both.is_second in (
      (table.0, offset.0, functions.0),
      omega (
        arith,
        table.1,
        offset.1,
        functions.1,
        Then_length bytes h,
        Then_length h.back both,
        length-append (u32_spelling e.table) (expression_bytes e.offset ++ vector u32_spelling e.functions),
        length-append (expression_bytes e.offset) (vector u32_spelling e.functions),
      ),
    )

pub data_is_shortest : IsShortest IsDataHeld SpellsData data_bytes
unfolding data_bytes
data_is_shortest d bytes h =
    let both = h.is_second in
    let memory = u32_is_shortest d.memory h.front h.is_first in
    let offset = expression_is_shortest d.offset both.front both.is_first in (
      (memory.0, offset.0, both.is_second.are_bytes),
      omega (
        arith,
        memory.1,
        offset.1,
        bytes_shortest d.bytes both.back both.is_second.spelled,
        Then_length bytes h,
        Then_length h.back both,
        length-append (u32_spelling d.memory) (expression_bytes d.offset ++ sized d.bytes),
        length-append (expression_bytes d.offset) (sized d.bytes),
      ),
    )
