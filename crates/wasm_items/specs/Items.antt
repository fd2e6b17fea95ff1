-- How the items of the sections are spelled (Core 1.0, 5.5.5 to 5.5.14), except functions.
use Rattle.std.specs.Prelude.{ℕ, List}
use Rattle.wasm_ast.specs.declared.module.ImportDescription.{ImportDescription}
use Rattle.wasm_ast.specs.declared.module.ImportDescription.TheVariants as import
use Rattle.wasm_ast.specs.declared.module.Import.{Import}
use Rattle.wasm_ast.specs.declared.module.Global.{Global}
use Rattle.wasm_ast.specs.declared.module.ExportDescription.{ExportDescription}
use Rattle.wasm_ast.specs.declared.module.ExportDescription.TheVariants as export
use Rattle.wasm_ast.specs.declared.module.Export.{Export}
use Rattle.wasm_ast.specs.declared.module.Element.{Element}
use Rattle.wasm_ast.specs.declared.module.Data.{Data}
use Rattle.wasm_items.specs.Bytes.{Then, Byte, U32, Vector, ByteVector, Name}
use Rattle.wasm_items.specs.Types.{SpellsLimits, SpellsTableType, SpellsGlobalType}
use Rattle.wasm_items.specs.Instructions.{SpellsExpression}

abbrev pub SpellsImportDescription : ImportDescription → List ℕ → Type 0
SpellsImportDescription (import.Function t) bytes = Then (Byte 0x00) (U32 t) bytes
SpellsImportDescription (import.Table l) bytes = Then (Byte 0x01) (SpellsTableType l) bytes
SpellsImportDescription (import.Memory l) bytes = Then (Byte 0x02) (SpellsLimits l) bytes
SpellsImportDescription (import.Global t) bytes = Then (Byte 0x03) (SpellsGlobalType t) bytes

abbrev pub SpellsImport : Import → List ℕ → Type 0
SpellsImport i bytes = Then (Name i.module) (Then (Name i.name) (SpellsImportDescription i.description)) bytes

abbrev pub SpellsGlobal : Global → List ℕ → Type 0
SpellsGlobal g bytes = Then (SpellsGlobalType g.global_type) (SpellsExpression g.initial) bytes

abbrev pub SpellsExportDescription : ExportDescription → List ℕ → Type 0
SpellsExportDescription (export.Function x) bytes = Then (Byte 0x00) (U32 x) bytes
SpellsExportDescription (export.Table x) bytes = Then (Byte 0x01) (U32 x) bytes
SpellsExportDescription (export.Memory x) bytes = Then (Byte 0x02) (U32 x) bytes
SpellsExportDescription (export.Global x) bytes = Then (Byte 0x03) (U32 x) bytes

abbrev pub SpellsExport : Export → List ℕ → Type 0
SpellsExport e bytes = Then (Name e.name) (SpellsExportDescription e.description) bytes

abbrev pub SpellsElement : Element → List ℕ → Type 0
SpellsElement e bytes = Then (U32 e.table) (Then (SpellsExpression e.offset) (Vector U32 e.functions)) bytes

abbrev pub SpellsData : Data → List ℕ → Type 0
SpellsData d bytes = Then (U32 d.memory) (Then (SpellsExpression d.offset) (ByteVector d.bytes)) bytes
