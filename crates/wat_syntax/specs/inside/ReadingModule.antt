-- Reading the tokens of a printed module (Core 1.0, 6.6).
use Rattle.std.specs.Prelude.{ℕ, Bool, true, false, not, ◌&&◌, List, [], ◌∷◌, ◌++◌, Option, Some, None, is_some, if◌then◌else◌}
use Rattle.wasm_ast.specs.declared.types.FuncType.{FuncType}
use Rattle.wasm_ast.specs.declared.types.Limits.{Limits}
use Rattle.wasm_ast.specs.declared.module.ImportDescription.{ImportDescription}
use Rattle.wasm_ast.specs.declared.module.ImportDescription.TheVariants as import
use Rattle.wasm_ast.specs.declared.module.Import.{Import}
use Rattle.wasm_ast.specs.declared.module.Function.{Function}
use Rattle.wasm_ast.specs.declared.module.Global.{Global}
use Rattle.wasm_ast.specs.declared.module.ExportDescription.{ExportDescription}
use Rattle.wasm_ast.specs.declared.module.ExportDescription.TheVariants as export
use Rattle.wasm_ast.specs.declared.module.Export.{Export}
use Rattle.wasm_ast.specs.declared.module.Element.{Element}
use Rattle.wasm_ast.specs.declared.module.Data.{Data}
use Rattle.wasm_ast.specs.declared.module.Module.{Module}
use Rattle.wasm_ast.specs.Limits.{max_nesting}
use Rattle.wasm_ast.specs.Code.{Code}
use Rattle.wasm_ast.specs.Modules.{empty_module}
use Rattle.wat_syntax.specs.declared.keyword.Keyword.{Keyword}
use Rattle.wat_syntax.specs.declared.keyword.Keyword.TheVariants as keyword
use Rattle.wat_syntax.specs.declared.lexer.token.Token.{Token}
use Rattle.wat_syntax.specs.declared.lexer.token.Token.TheVariants as token
use Rattle.wat_syntax.specs.declared.parser.draft.Draft.{Draft}
use Rattle.wat_syntax.specs.inside.Follows.{◌>>=◌}
use Rattle.wat_syntax.specs.inside.Tokens.{Tok, opens, key, text, other}
use Rattle.wat_syntax.specs.inside.Reading.{State, Reads, repeated, item_step, opening, inside, opened_at, type_first, closed_at, funcref_at, unnamed_at, number_at, number_first, text_at, name_at, limits_at, global_type_at, local_first, groups_at, defined_type_at, type_use_at}
use Rattle.wat_syntax.specs.inside.ReadingCode.{code_at}

-- ---- the draft of a module, except its types

abbrev pub drafted : Draft → Module
drafted d = record {
  types = [];
  imports = d.imports.items;
  functions = d.functions.items;
  tables = d.tables.items;
  memories = d.memories.items;
  globals = d.globals.items;
  exports = d.exports.items;
  start = d.start;
  elements = d.elements.items;
  «data» = d.segments.items;
}

-- the draft of a module, and the tokens that remain
abbrev pub Making : Type 0
Making = Module × State

abbrev pub with_import : Module → Import → Module
with_import m x = record m { imports = m.imports ++ x ∷ [] }

abbrev pub with_function : Module → Function → Module
with_function m x = record m { functions = m.functions ++ x ∷ [] }

abbrev pub with_table : Module → Limits → Module
with_table m x = record m { tables = m.tables ++ x ∷ [] }

abbrev pub with_memory : Module → Limits → Module
with_memory m x = record m { memories = m.memories ++ x ∷ [] }

abbrev pub with_global : Module → Global → Module
with_global m x = record m { globals = m.globals ++ x ∷ [] }

abbrev pub with_export : Module → Export → Module
with_export m x = record m { exports = m.exports ++ x ∷ [] }

abbrev pub with_start : Module → ℕ → Module
with_start m x = record m { start = Some x }

abbrev pub with_element : Module → Element → Module
with_element m x = record m { elements = m.elements ++ x ∷ [] }

abbrev pub with_segment : Module → Data → Module
with_segment m x = record m { «data» = m.«data» ++ x ∷ [] }

abbrev pub with_types : Module → List FuncType → Module
with_types m ts = record m { types = ts }

abbrev pub is_empty : {A : Type 0} → List A → Bool
is_empty [] = true
is_empty (x ∷ xs) = false

-- whether a function, table, memory or global is defined
abbrev pub has_definition : Module → Bool
has_definition m = not (is_empty m.functions && is_empty m.tables && is_empty m.memories && is_empty m.globals)

-- ---- imports and exports

unfoldable pub table_at : Reads Limits
table_at s = limits_at s >>= λ l. funcref_at l.1 >>= λ e. Some (l.0, e)

unfoldable pub imported_at : Keyword → Reads ImportDescription
imported_at keyword.Func s = type_use_at s >>= λ n. Some (import.Function n.0, n.1)
imported_at keyword.Table s = table_at s >>= λ l. Some (import.Table l.0, l.1)
imported_at keyword.Memory s = limits_at s >>= λ l. Some (import.Memory l.0, l.1)
imported_at keyword.Global s = global_type_at s >>= λ t. Some (import.Global t.0, t.1)
imported_at _ s = None

unfoldable pub import_description_at : Reads ImportDescription
import_description_at s =
    opened_at s >>= λ k. unnamed_at k.1 >>= λ a. imported_at k.0 a >>= λ d. closed_at d.1 >>= λ e. Some (d.0, e)

unfoldable pub import_at : Reads Import
import_at s =
    name_at s >>= λ m. name_at m.1 >>= λ n. import_description_at n.1 >>= λ d.
    Some (record { «module» = m.0; name = n.0; description = d.0 }, d.1)

unfoldable pub exported_at : Keyword → Reads ExportDescription
exported_at keyword.Func s = number_at s >>= λ n. Some (export.Function n.0, n.1)
exported_at keyword.Table s = number_at s >>= λ n. Some (export.Table n.0, n.1)
exported_at keyword.Memory s = number_at s >>= λ n. Some (export.Memory n.0, n.1)
exported_at keyword.Global s = number_at s >>= λ n. Some (export.Global n.0, n.1)
exported_at _ s = None

unfoldable pub export_description_at : Reads ExportDescription
export_description_at s = opened_at s >>= λ k. exported_at k.0 k.1 >>= λ d. closed_at d.1 >>= λ e. Some (d.0, e)

unfoldable pub export_at : Reads Export
export_at s = name_at s >>= λ n. export_description_at n.1 >>= λ d. Some (record { name = n.0; description = d.0 }, d.1)

-- ---- definitions

-- whether this is the keyword of an inline export or import
abbrev pub is_inline : Option Keyword → Bool
is_inline (Some keyword.Export) = true
is_inline (Some keyword.Import) = true
is_inline _ = false

abbrev pub inline_first : List Tok → Bool
inline_first ts = is_inline (opening ts)

unfoldable pub inline_at : Making → Option Making
inline_at x = if inline_first x.1.0 then None else Some x

-- no name and no inline export follows the keyword of a definition
unfoldable pub heading_at : Making → Option Making
heading_at x = unnamed_at x.1 >>= λ s. inline_at (x.0, s)

unfoldable pub defined_at : {A : Type 0} → Reads A → (Module → A → Module) → Making → Option Making
defined_at item with_item x = heading_at x >>= λ y. item y.1 >>= λ i. Some (with_item y.0 i.0, i.1)

unfoldable pub function_at : ℕ → Reads Function
function_at n s =
    type_use_at s >>= λ t. groups_at local_first n ([], t.1) >>= λ l. code_at max_nesting n l.1 >>= λ b.
    Some (record { type_number = t.0; locals = l.0; body = b.0 }, b.1)

unfoldable pub global_at : ℕ → Reads Global
global_at n s =
    global_type_at s >>= λ t. code_at max_nesting n t.1 >>= λ b. Some (record { global_type = t.0; initial = b.0 }, b.1)

-- ---- segments

-- the index of a table or memory, which is 0 where none is given
unfoldable pub number_or_0_at : Reads ℕ
number_or_0_at s = number_first s.0 >>= λ b. if b then number_at s else Some (0, s)

abbrev pub is_offset : Option Keyword → Bool
is_offset (Some keyword.Offset) = true
is_offset _ = false

abbrev pub offset_first : List Tok → Bool
offset_first ts = is_offset (opening ts)

-- the inside of (offset ..)
unfoldable pub inner_offset_at : ℕ → Reads Code
inner_offset_at n s = code_at max_nesting n (inside s) >>= λ b. closed_at b.1 >>= λ e. Some (b.0, e)

unfoldable pub offset_at : ℕ → Reads Code
offset_at n s = if offset_first s.0 then inner_offset_at n s else None

unfoldable pub numbers_at : ℕ → Reads (List ℕ)
numbers_at n s = repeated number_first (item_step number_at) n ([], s)

unfoldable pub element_at : ℕ → Reads Element
element_at n s =
    number_or_0_at s >>= λ t. offset_at n t.1 >>= λ o. numbers_at n o.1 >>= λ f.
    Some (record { table = t.0; offset = o.0; functions = f.0 }, f.1)

-- whether a string comes first
unfoldable pub text_first : List Tok → Option Bool
text_first (text bytes ∷ ts) = Some true
text_first (other ∷ ts) = None
text_first _ = Some false

abbrev pub text_step : List ℕ × State → Option (List ℕ × State)
text_step x = text_at x.1 >>= λ b. Some (x.0 ++ b.0, b.1)

unfoldable pub bytes_at : ℕ → Reads (List ℕ)
bytes_at n s = repeated text_first text_step n ([], s)

unfoldable pub segment_at : ℕ → Reads Data
segment_at n s =
    number_or_0_at s >>= λ t. offset_at n t.1 >>= λ o. bytes_at n o.1 >>= λ b.
    Some (record { memory = t.0; offset = o.0; bytes = b.0 }, b.1)

-- ---- fields

-- an item that is added to the module
abbrev pub added : {A : Type 0} → Reads A → (Module → A → Module) → Making → Option Making
added item with_item x = item x.1 >>= λ i. Some (with_item x.0 i.0, i.1)

-- an import, which may not follow a definition
abbrev pub import_field_at : Making → Option Making
import_field_at x = if has_definition x.0 then None else added import_at with_import x

abbrev pub function_field_at : ℕ → Making → Option Making
function_field_at n x = defined_at (function_at n) with_function x

abbrev pub table_field_at : Making → Option Making
table_field_at x = defined_at table_at with_table x

abbrev pub memory_field_at : Making → Option Making
memory_field_at x = defined_at limits_at with_memory x

abbrev pub global_field_at : ℕ → Making → Option Making
global_field_at n x = defined_at (global_at n) with_global x

abbrev pub export_field_at : Making → Option Making
export_field_at x = added export_at with_export x

-- a start function; a second one is refused
abbrev pub start_field_at : Making → Option Making
start_field_at x = if is_some x.0.start then None else added number_at with_start x

abbrev pub element_field_at : ℕ → Making → Option Making
element_field_at n x = added (element_at n) with_element x

abbrev pub segment_field_at : ℕ → Making → Option Making
segment_field_at n x = added (segment_at n) with_segment x

-- what follows a field's keyword, up to its closing parenthesis
unfoldable pub field_at : ℕ → Keyword → Making → Option Making
field_at n keyword.Import x = import_field_at x
field_at n keyword.Func x = function_field_at n x
field_at n keyword.Table x = table_field_at x
field_at n keyword.Memory x = memory_field_at x
field_at n keyword.Global x = global_field_at n x
field_at n keyword.Export x = export_field_at x
field_at n keyword.Start x = start_field_at x
field_at n keyword.Elem x = element_field_at n x
field_at n keyword.Data x = segment_field_at n x
field_at n _ x = None

-- the same, where the field has this keyword
abbrev pub keyword_at : Keyword → ℕ → Making → Option Making
keyword_at k n x = field_at n k x

unfoldable pub field_first : List Tok → Option Bool
field_first (opens ∷ key k ∷ ts) = Some true
field_first _ = Some false

-- a field with its parentheses
unfoldable pub field_step : ℕ → Making → Option Making
field_step n x = opened_at x.1 >>= λ k. field_at n k.0 (x.0, k.1) >>= λ y. closed_at y.1 >>= λ e. Some (y.0, e)

unfoldable pub fields_at : ℕ → Making → Option Making
fields_at n x = repeated field_first (field_step n) n x

-- ---- the module

-- whether a type comes first
abbrev pub goes_on_with_type : List Tok → Option Bool
goes_on_with_type ts = Some (type_first ts)

-- one more type
unfoldable pub type_step : ℕ → Unit {0} × State → Option (Unit {0} × State)
type_step n x =
    defined_type_at n (inside x.1) >>= λ t. closed_at (t.1.0, t.1.1 ++ t.0 ∷ []) >>= λ e. Some (x.0, e)

unfoldable pub types_at : ℕ → Unit {0} × State → Option (Unit {0} × State)
types_at n x = repeated goes_on_with_type (type_step n) n x

unfoldable pub module_open_at : State → Option State
module_open_at (opens ∷ key keyword.Module ∷ ts, types) = unnamed_at (ts, types)
module_open_at _ = None

-- the module's fields, between its parentheses
unfoldable pub whole_at : ℕ → Making → Option Making
whole_at n x =
    module_open_at x.1 >>= λ a. types_at n (tt, a) >>= λ b. fields_at n (x.0, b.1) >>= λ y. closed_at y.1 >>= λ e. Some (y.0, e)

-- the same, where no token follows
unfoldable pub only_at : ℕ → Making → Option Making
only_at n x = whole_at n x >>= λ y. if is_empty y.1.0 then Some y else None

-- all tokens of a text
unfoldable pub module_at : ℕ → List Tok → Option Module
module_at n ts = only_at n (empty_module, (ts, [])) >>= λ x. Some (with_types x.0 x.1.1)

-- no token is a name
abbrev pub nameless : List Token → Bool
nameless [] = true
nameless (token.Name n ∷ ts) = false
nameless (t ∷ ts) = nameless ts
