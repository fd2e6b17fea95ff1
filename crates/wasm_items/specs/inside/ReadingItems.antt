-- Reading the items of the sections, except functions.
use Rattle.std.specs.Prelude.{ℕ, nat_le, Option, Some, None, ◌==◌, if◌then◌else◌}
use Rattle.wasm_ast.specs.declared.module.ImportDescription.{ImportDescription}
use Rattle.wasm_ast.specs.declared.module.ImportDescription.TheVariants as import
use Rattle.wasm_ast.specs.declared.module.Import.{Import}
use Rattle.wasm_ast.specs.declared.module.Global.{Global}
use Rattle.wasm_ast.specs.declared.module.ExportDescription.{ExportDescription}
use Rattle.wasm_ast.specs.declared.module.ExportDescription.TheVariants as export
use Rattle.wasm_ast.specs.declared.module.Export.{Export}
use Rattle.wasm_ast.specs.declared.module.Element.{Element}
use Rattle.wasm_ast.specs.declared.module.Data.{Data}
use Rattle.wasm_items.specs.inside.Reading.{◌>>=◌, guarded, Reads, byte_at, u32_at, part_at, vector_at, name_at, any_count, limits_at, table_type_at, global_type_at}
use Rattle.wasm_items.specs.inside.ReadingCode.{expression_at}

-- what follows the byte of a kind of import
unfoldable pub import_of : (kind : ℕ) → Reads ImportDescription
import_of kind bytes =
    if kind == 0x00 then (u32_at bytes >>= λ t. Some (import.Function t.0, t.1))
    else (if kind == 0x01 then (table_type_at bytes >>= λ l. Some (import.Table l.0, l.1))
    else (if kind == 0x02 then (limits_at bytes >>= λ l. Some (import.Memory l.0, l.1))
    else (if kind == 0x03 then (global_type_at bytes >>= λ t. Some (import.Global t.0, t.1)) else None)))

unfoldable pub import_description_at : Reads ImportDescription
import_description_at bytes = do
  kind ← byte_at bytes
  import_of kind.0 kind.1

unfoldable pub import_at : Reads Import
import_at bytes = do
  from ← name_at bytes
  name ← name_at from.1
  description ← import_description_at name.1
  Some (record { «module» = from.0; name = name.0; description = description.0 }, description.1)

unfoldable pub global_at : Reads Global
global_at bytes = do
  t ← global_type_at bytes
  initial ← expression_at t.1
  Some (record { global_type = t.0; initial = initial.0 }, initial.1)

-- the export of this kind and index
abbrev pub export_of : ℕ → ℕ → Option ExportDescription
export_of kind x =
    if kind == 0x00 then Some (export.Function x)
    else (if kind == 0x01 then Some (export.Table x)
    else (if kind == 0x02 then Some (export.Memory x)
    else (if kind == 0x03 then Some (export.Global x) else None)))

unfoldable pub export_description_at : Reads ExportDescription
export_description_at bytes = do
  kind ← byte_at bytes
  guarded (nat_le kind.0 0x03) (do
    x ← u32_at kind.1
    description ← export_of kind.0 x.0
    Some (description, x.1))

unfoldable pub export_at : Reads Export
export_at bytes = do
  name ← name_at bytes
  description ← export_description_at name.1
  Some (record { name = name.0; description = description.0 }, description.1)

unfoldable pub element_at : Reads Element
element_at bytes = do
  table ← u32_at bytes
  offset ← expression_at table.1
  functions ← vector_at u32_at any_count offset.1
  Some (record { table = table.0; offset = offset.0; functions = functions.0 }, functions.1)

unfoldable pub data_at : Reads Data
data_at bytes = do
  memory ← u32_at bytes
  offset ← expression_at memory.1
  content ← part_at offset.1
  Some (record { memory = memory.0; offset = offset.0; bytes = content.0 }, content.1)
