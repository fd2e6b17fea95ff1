-- The text of a module (Core 1.0, 6.6): types, imports, functions, tables, memories, globals, exports, the start
-- function, elements and data, in this order. Each field is on a line, one level in. References are indices.
use Rattle.std.specs.Prelude.{ℕ, ◌==◌, List, [], ◌∷◌, ◌++◌, Option, Some, None, if◌then◌else◌}
use Rattle.wasm_ast.specs.declared.types.ValType.{ValType}
use Rattle.wasm_ast.specs.declared.types.FuncType.{FuncType}
use Rattle.wasm_ast.specs.declared.types.Limits.{Limits}
use Rattle.wasm_ast.specs.declared.types.Mutability.TheVariants as mutability
use Rattle.wasm_ast.specs.declared.types.Mutability.{Mutability}
use Rattle.wasm_ast.specs.declared.types.GlobalType.{GlobalType}
use Rattle.wasm_ast.specs.declared.module.ImportDescription.{ImportDescription}
use Rattle.wasm_ast.specs.declared.module.ImportDescription.TheVariants as import
use Rattle.wasm_ast.specs.declared.module.Import.{Import}
use Rattle.wasm_ast.specs.declared.module.Function.{Function}
use Rattle.wasm_ast.specs.declared.module.Global.{Global}
use Rattle.wasm_ast.specs.declared.module.ExportDescription.{ExportDescription}
use Rattle.wasm_ast.specs.declared.module.ExportDescription.TheVariants as export
use Rattle.wasm_ast.specs.declared.module.Export.{Export}
use Rattle.wasm_ast.specs.declared.module.Element.{Element}
use Rattle.wasm_ast.specs.declared.module.Data.{Data}
use Rattle.wasm_ast.specs.declared.module.Module.{Module}
use Rattle.wasm_ast.specs.Code.{Code}
use Rattle.wat_syntax.specs.declared.pieces.Gap.TheVariants as gap
use Rattle.wat_syntax.specs.declared.keyword.Keyword.{Keyword}
use Rattle.wat_syntax.specs.declared.keyword.Keyword.TheVariants as keyword
use Rattle.wat_syntax.specs.Pieces.{Piece, opens, says, counts, quotes, closes, closes_line, text, each}
use Rattle.wat_syntax.specs.Instructions.{type_use, number, type_word, code}

-- ---- parts of fields

-- a keyword and types in parentheses, as (param i32 i64), or nothing where there are no types
abbrev pub type_group : Keyword → List ValType → List Piece → List Piece
type_group k [] more = more
type_group k (t ∷ ts) more = opens gap.Space k ∷ each type_word (t ∷ ts) (closes ∷ more)

abbrev pub maximum_part : Option ℕ → List Piece → List Piece
maximum_part None more = more
maximum_part (Some n) more = counts n ∷ more

-- the minimum, and the maximum where there is one
abbrev pub limits : Limits → List Piece → List Piece
limits l more = counts l.minimum ∷ maximum_part l.maximum more

-- t, or (mut t)
abbrev pub value_type : Mutability → ValType → List Piece → List Piece
value_type mutability.Constant t more = says gap.Space (keyword.Type t) ∷ more
value_type mutability.Variable t more = opens gap.Space keyword.Mut ∷ says gap.Space (keyword.Type t) ∷ closes ∷ more

abbrev pub global_type : GlobalType → List Piece → List Piece
global_type t more = value_type t.mutability t.value more

-- the index of a segment's table or memory, where it is not 0
abbrev pub number_part : ℕ → List Piece → List Piece
number_part n more = if n == 0 then more else counts n ∷ more

-- instructions on one line
abbrev pub offset : Code → List Piece → List Piece
offset body more = opens gap.Space keyword.Offset ∷ code gap.Space body (closes ∷ more)

-- ---- fields

-- the start of a field, on a line of its own
abbrev pub begins : Keyword → List Piece → List Piece
begins k more = opens (gap.Line 1) k ∷ more

-- (type (func (param i32) (result i64)))
abbrev pub type_field : FuncType → List Piece → List Piece
type_field t more =
    begins keyword.FuncType (opens gap.Space keyword.Func
    ∷ type_group keyword.Param t.parameters (type_group keyword.Result t.results (closes ∷ closes ∷ more)))

abbrev pub import_description : ImportDescription → List Piece → List Piece
import_description (import.Function n) more = opens gap.Space keyword.Func ∷ type_use n (closes ∷ more)
import_description (import.Table l) more =
    opens gap.Space keyword.Table ∷ limits l (says gap.Space keyword.Funcref ∷ closes ∷ more)
import_description (import.Memory l) more = opens gap.Space keyword.Memory ∷ limits l (closes ∷ more)
import_description (import.Global t) more = opens gap.Space keyword.Global ∷ global_type t (closes ∷ more)

-- (import "module" "name" (func (type 0)))
abbrev pub import_field : Import → List Piece → List Piece
import_field i more =
    begins keyword.Import (quotes i.module ∷ quotes i.name ∷ import_description i.description (closes ∷ more))

-- (func (type 0) (local i32 i64), a line for each instruction, and a parenthesis on a line of its own
abbrev pub function_field : Function → List Piece → List Piece
function_field f more =
    begins keyword.Func (type_use f.type_number (type_group keyword.Local f.locals
    (code (gap.Line 2) f.body (closes_line 1 ∷ more))))

-- (table 1 2 funcref)
abbrev pub table_field : Limits → List Piece → List Piece
table_field l more = begins keyword.Table (limits l (says gap.Space keyword.Funcref ∷ closes ∷ more))

-- (memory 1 2)
abbrev pub memory_field : Limits → List Piece → List Piece
memory_field l more = begins keyword.Memory (limits l (closes ∷ more))

-- (global (mut i32) i32.const 1)
abbrev pub global_field : Global → List Piece → List Piece
global_field g more = begins keyword.Global (global_type g.global_type (code gap.Space g.initial (closes ∷ more)))

-- (func 0)
abbrev pub numbered : Keyword → ℕ → List Piece → List Piece
numbered k n more = opens gap.Space k ∷ counts n ∷ closes ∷ more

abbrev pub export_description : ExportDescription → List Piece → List Piece
export_description (export.Function n) more = numbered keyword.Func n more
export_description (export.Table n) more = numbered keyword.Table n more
export_description (export.Memory n) more = numbered keyword.Memory n more
export_description (export.Global n) more = numbered keyword.Global n more

-- (export "name" (func 0))
abbrev pub export_field : Export → List Piece → List Piece
export_field e more = begins keyword.Export (quotes e.name ∷ export_description e.description (closes ∷ more))

-- (start 0)
abbrev pub start_field : Option ℕ → List Piece → List Piece
start_field None more = more
start_field (Some n) more = begins keyword.Start (counts n ∷ closes ∷ more)

-- (elem 1 (offset i32.const 0) 3 4)
abbrev pub element_field : Element → List Piece → List Piece
element_field e more = begins keyword.Elem (number_part e.table (offset e.offset (each number e.functions (closes ∷ more))))

-- (data 1 (offset i32.const 0) "bytes")
abbrev pub data_field : Data → List Piece → List Piece
data_field d more = begins keyword.Data (number_part d.memory (offset d.offset (quotes d.bytes ∷ closes ∷ more)))

-- ---- the module

abbrev pub definitions : Module → List Piece → List Piece
definitions m more =
    each type_field m.types (each import_field m.imports (each function_field m.functions
    (each table_field m.tables (each memory_field m.memories (each global_field m.globals more)))))

abbrev pub uses : Module → List Piece → List Piece
uses m more =
    each export_field m.exports (start_field m.start (each element_field m.elements (each data_field m.data more)))

abbrev pub pieces : Module → List Piece → List Piece
pieces m more = opens gap.Nothing keyword.Module ∷ definitions m (uses m (closes_line 0 ∷ more))

-- the text of the pieces, and the end of the last line
unfoldable pub layout : Module → List ℕ
layout m = text (pieces m []) ++ 10 ∷ []
