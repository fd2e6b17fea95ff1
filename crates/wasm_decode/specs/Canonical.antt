-- The canonical spelling of a module: the one that the encoder writes (Core 1.0, section 5). It is the shortest spelling
-- of each part. So it has no custom section, no section whose vector is empty, one group for neighbouring locals of one
-- type, and no `else` for an empty arm.
use Rattle.std.specs.Prelude.{ℕ, ◌+◌, Bool, true, false, if◌then◌else◌, List, [], ◌∷◌, ◌++◌, Option, Some, None}
use Rattle.leb.specs.Spelling.{u32_spelling}
use Rattle.wasm_ast.specs.declared.types.ValType.{ValType}
use Rattle.wasm_ast.specs.declared.types.ValType.TheVariants as val_type
use Rattle.wasm_ast.specs.declared.module.Function.{Function}
use Rattle.wasm_ast.specs.declared.module.Module.{Module}
use Rattle.wasm_items.specs.Canonical.{sized, vector, val_type_bytes, func_type_bytes, limits_bytes, table_bytes, expression_bytes, import_bytes, type_number_bytes, global_bytes, export_bytes, element_bytes, data_bytes}
use Rattle.wasm_decode.specs.Grammar.{magic, version}

-- ---- sections (5.5.2)

-- a section with this id and content
unfoldable pub section : ℕ → List ℕ → List ℕ
section number content = number ∷ sized content

-- a section of a vector, which is absent where the vector is empty
abbrev pub vector_section : {A : Type 0} → ℕ → (A → List ℕ) → List A → List ℕ
vector_section number item [] = []
vector_section number item (x ∷ xs) = section number (vector item (x ∷ xs))

-- ---- functions (5.5.13)

abbrev pub is_same_type : ValType → ValType → Bool
is_same_type val_type.I32 val_type.I32 = true
is_same_type val_type.I32 val_type.I64 = false
is_same_type val_type.I64 val_type.I32 = false
is_same_type val_type.I64 val_type.I64 = true

-- the groups of the locals, where `count` locals of this type come before them
abbrev pub groups_from : ℕ → ValType → List ValType → List (ℕ × ValType)
groups_from count t [] = (count, t) ∷ []
groups_from count t (u ∷ us) =
    if is_same_type u t then groups_from (count + 1) t us else (count, t) ∷ groups_from 1 u us

-- locals in groups: neighbours of one type are in one group
abbrev pub groups_of : List ValType → List (ℕ × ValType)
groups_of [] = []
groups_of (t ∷ ts) = groups_from 1 t ts

abbrev pub group_bytes : ℕ × ValType → List ℕ
group_bytes g = u32_spelling g.0 ++ val_type_bytes g.1

unfoldable pub locals_bytes : List ValType → List ℕ
locals_bytes locals = vector group_bytes (groups_of locals)

-- the size of a function's locals and body, then the two (5.5.13)
unfoldable pub function_bytes : Function → List ℕ
function_bytes f = sized (locals_bytes f.locals ++ expression_bytes f.body)

-- ---- modules (5.5.15)

abbrev pub start_section : Option ℕ → List ℕ
start_section None = []
start_section (Some f) = section 8 (u32_spelling f)

unfoldable pub sections_bytes : Module → List ℕ
sections_bytes m =
    vector_section 1 func_type_bytes m.types ++ (vector_section 2 import_bytes m.imports
    ++ (vector_section 3 type_number_bytes m.functions ++ (vector_section 4 table_bytes m.tables
    ++ (vector_section 5 limits_bytes m.memories ++ (vector_section 6 global_bytes m.globals
    ++ (vector_section 7 export_bytes m.exports ++ (start_section m.start
    ++ (vector_section 9 element_bytes m.elements ++ (vector_section 10 function_bytes m.functions
    ++ vector_section 11 data_bytes m.data)))))))))

unfoldable pub canonical : Module → List ℕ
canonical m = magic ++ (version ++ sections_bytes m)
