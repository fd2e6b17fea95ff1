-- Reading sections, each of which may be absent, and the module that they make up.
use Rattle.std.specs.Prelude.{ℕ, zero, suc, ◌-◌, Bool, ◌&&◌, List, [], ◌∷◌, ◌++◌, length, replicate, nat_le, nat_lt, Option, Some, None, ◌==◌, if◌then◌else◌}
use Rattle.wasm_ast.specs.declared.types.ValType.{ValType}
use Rattle.wasm_ast.specs.declared.types.FuncType.{FuncType}
use Rattle.wasm_ast.specs.declared.module.Import.{Import}
use Rattle.wasm_ast.specs.declared.module.Function.{Function}
use Rattle.wasm_ast.specs.declared.module.Module.{Module}
use Rattle.wasm_ast.specs.Modules.{empty_module}
use Rattle.wasm_ast.specs.Limits.{max_module_bytes, max_functions, max_locals, parameters_of, imported_functions}
use Rattle.wasm_items.specs.inside.Reading.{◌>>=◌, guarded, Reads, u32_at, part_at, vector_at, name_at, is_empty, any_count, val_type_at, func_type_at, limits_at, table_type_at}
use Rattle.wasm_items.specs.inside.ReadingCode.{expression_at}
use Rattle.wasm_items.specs.inside.ReadingItems.{import_at, global_at, export_at, element_at, data_at}
use Rattle.wasm_decode.specs.Grammar.{magic, version}

-- ---- the contents of sections

-- imports; at most as many are functions as a module may have
unfoldable pub imports_at : Reads (List Import)
imports_at bytes = do
  imports ← vector_at import_at any_count bytes
  guarded (nat_le (imported_functions imports.0) max_functions) (Some imports)

unfoldable pub start_at : Reads (Option ℕ)
start_at bytes = do
  f ← u32_at bytes
  Some (Some f.0, f.1)

-- ---- functions

-- `groups` groups of locals, of at most `room` locals in all
unfoldable pub groups_at : (groups room : ℕ) → Reads (List ValType)
groups_at zero room bytes = Some ([], bytes)
groups_at (suc n) room bytes = do
  count ← u32_at bytes
  guarded (nat_le count.0 room) (do
    t ← val_type_at count.1
    others ← groups_at n (room - count.0) t.1
    Some (replicate count.0 t.0 ++ others.0, others.1))

unfoldable pub locals_at : (room : ℕ) → Reads (List ValType)
locals_at room bytes = do
  n ← u32_at bytes
  groups_at n.0 room n.1

-- all bytes, as the locals and the body of a function with this type index and this many parameters
unfoldable pub function_in : (type_number parameters : ℕ) → List ℕ → Option Function
function_in t parameters bytes = do
  locals ← locals_at (max_locals - parameters) bytes
  body ← expression_at locals.1
  guarded (is_empty body.1) (Some (record { type_number = t; locals = locals.0; body = body.0 }))

unfoldable pub function_at : List FuncType → (type_number : ℕ) → Reads Function
function_at types t bytes = do
  inside ← part_at bytes
  f ← function_in t (parameters_of types t) inside.0
  Some (f, inside.1)

-- a body for each type index
unfoldable pub bodies_at : List FuncType → List ℕ → Reads (List Function)
bodies_at types [] bytes = Some ([], bytes)
bodies_at types (t ∷ ts) bytes = do
  f ← function_at types t bytes
  others ← bodies_at types ts f.1
  Some (f.0 ∷ others.0, others.1)

unfoldable pub functions_at : List FuncType → List ℕ → Reads (List Function)
functions_at types ts bytes = do
  n ← u32_at bytes
  guarded (n.0 == length ts) (bodies_at types ts n.1)

-- ---- sections

-- what follows the id of a custom section; its name is checked, and its other bytes are skipped
unfoldable pub custom_at : List ℕ → Option (List ℕ)
custom_at bytes = do
  inside ← part_at bytes
  name ← name_at inside.0
  Some inside.1

-- custom sections, as many as there are; the first argument bounds how many may be read
unfoldable pub customs_at : ℕ → List ℕ → Option (List ℕ)
customs_at zero bytes = None
customs_at (suc n) [] = Some []
customs_at (suc n) (b ∷ bytes) =
    if b == 0 then (do
      inside ← part_at bytes
      name ← name_at inside.0
      customs_at n inside.1)
    else Some (b ∷ bytes)

-- the custom sections at the front are skipped
unfoldable pub skip_customs : List ℕ → Option (List ℕ)
skip_customs bytes = customs_at (suc (length bytes)) bytes

-- whether the section b may come after the section `number`
abbrev pub is_later : (number b : ℕ) → Bool
is_later number b = nat_lt number b && nat_le b 11

-- the content of the section with this id, or none where a later section or the end comes next
unfoldable pub section_at : (number : ℕ) → Reads (Option (List ℕ))
section_at number [] = Some (None, [])
section_at number (b ∷ bytes) =
    if b == number then (do
      inside ← part_at bytes
      Some (Some inside.0, inside.1))
    else guarded (is_later number b) (Some (None, b ∷ bytes))

-- the end of a section whose content is read; the custom sections after it are skipped
abbrev pub closed : {A : Type 0} → Option (A × List ℕ) → List ℕ → Option (A × List ℕ)
closed read after = read >>= λ x. guarded (is_empty x.1) (skip_customs after >>= λ rest. Some (x.0, rest))

-- the content of a section, or the default where it is absent
abbrev pub present_or : {A : Type 0} → Reads A → Option A → Option (List ℕ) → Reads A
present_or content absent None rest = absent >>= λ x. Some (x, rest)
present_or content absent (Some inside) rest = closed (content inside) rest

unfoldable pub section_with : {A : Type 0} → Reads A → (absent : Option A) → (number : ℕ) → Reads A
section_with content absent number bytes = do
  section ← section_at number bytes
  present_or content absent section.0 section.1

-- a section of a vector of at most `most` items
abbrev pub vector_in : {A : Type 0} → Reads A → (most number : ℕ) → Reads (List A)
vector_in item most number bytes = section_with (vector_at item most) (Some []) number bytes

abbrev pub items_in : {A : Type 0} → Reads A → (number : ℕ) → Reads (List A)
items_in item number bytes = vector_in item any_count number bytes

abbrev pub imports_in : Reads (List Import)
imports_in bytes = section_with imports_at (Some []) 2 bytes

abbrev pub start_in : Reads (Option ℕ)
start_in bytes = section_with start_at (Some None) 8 bytes

-- the bodies where there is no code section
abbrev pub no_bodies : List ℕ → Option (List Function)
no_bodies [] = Some []
no_bodies (t ∷ ts) = None

-- the bodies of functions with these type indices
abbrev pub code_in : List FuncType → List ℕ → Reads (List Function)
code_in types ts bytes = section_with (functions_at types ts) (no_bodies ts) 10 bytes

-- ---- modules

-- types and imports
unfoldable pub types_at : Module → Reads Module
types_at m bytes = do
  types ← items_in func_type_at 1 bytes
  imports ← imports_in types.1
  Some (record m { types = types.0; imports = imports.0 }, imports.1)

-- the type indices of functions, where `imported` functions are imported
unfoldable pub numbers_at : (imported : ℕ) → Reads (List ℕ)
numbers_at imported bytes = vector_in u32_at (max_functions - imported) 3 bytes

-- tables, memories and globals
unfoldable pub spaces_at : Module → Reads Module
spaces_at m bytes = do
  tables ← items_in table_type_at 4 bytes
  memories ← items_in limits_at 5 tables.1
  globals ← items_in global_at 6 memories.1
  Some (record m { tables = tables.0; memories = memories.0; globals = globals.0 }, globals.1)

-- exports, the start function, and elements
unfoldable pub exports_at : Module → Reads Module
exports_at m bytes = do
  exports ← items_in export_at 7 bytes
  start ← start_in exports.1
  elements ← items_in element_at 9 start.1
  Some (record m { exports = exports.0; start = start.0; elements = elements.0 }, elements.1)

-- functions with these type indices, and data
unfoldable pub contents_at : List ℕ → Module → Reads Module
contents_at ts m bytes = do
  functions ← code_in m.types ts bytes
  segments ← items_in data_at 11 functions.1
  Some (record m { functions = functions.0; «data» = segments.0 }, segments.1)

-- the sections after the function section, to the end of the bytes
unfoldable pub remaining_at : List ℕ → Module → List ℕ → Option Module
remaining_at ts m bytes = do
  spaces ← spaces_at m bytes
  exports ← exports_at spaces.0 spaces.1
  contents ← contents_at ts exports.0 exports.1
  guarded (is_empty contents.1) (Some contents.0)

-- all bytes, whose sections replace the contents of the module
unfoldable pub filled_at : Module → List ℕ → Option Module
filled_at m bytes = do
  first ← skip_customs bytes
  types ← types_at m first
  numbers ← numbers_at (imported_functions types.0.imports) types.1
  remaining_at numbers.0 types.0 numbers.1

-- all bytes
unfoldable pub sections_at : List ℕ → Option Module
sections_at bytes = filled_at empty_module bytes

-- the bytes after these, which must come first
unfoldable pub after_bytes : List ℕ → List ℕ → Option (List ℕ)
after_bytes [] bytes = Some bytes
after_bytes (c ∷ cs) [] = None
after_bytes (c ∷ cs) (b ∷ bytes) = guarded (b == c) (after_bytes cs bytes)

unfoldable pub module_at : List ℕ → Option Module
module_at bytes = guarded (nat_le (length bytes) max_module_bytes) (do
  numbered ← after_bytes magic bytes
  sections ← after_bytes version numbered
  sections_at sections)
