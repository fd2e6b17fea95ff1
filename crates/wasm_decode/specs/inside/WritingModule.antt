-- The bytes that the writers append, where the canonical spelling has no name for them.
use Rattle.std.specs.Prelude.{ℕ, List, ◌++◌}
use Rattle.wasm_ast.specs.declared.module.Module.{Module}
use Rattle.wasm_items.specs.Canonical.{func_type_bytes, limits_bytes, table_bytes, import_bytes, type_number_bytes, global_bytes, export_bytes, element_bytes, data_bytes}
use Rattle.wasm_decode.specs.Canonical.{vector_section, function_bytes, start_section}

-- types, imports, the types of functions, and tables
unfoldable pub declarations_bytes : Module → List ℕ
declarations_bytes m =
    vector_section 1 func_type_bytes m.types ++ (vector_section 2 import_bytes m.imports
    ++ (vector_section 3 type_number_bytes m.functions ++ vector_section 4 table_bytes m.tables))

-- memories, globals, exports, and the start function
unfoldable pub spaces_bytes : Module → List ℕ
spaces_bytes m =
    vector_section 5 limits_bytes m.memories ++ (vector_section 6 global_bytes m.globals
    ++ (vector_section 7 export_bytes m.exports ++ start_section m.start))

-- elements, functions and data
unfoldable pub contents_bytes : Module → List ℕ
contents_bytes m =
    vector_section 9 element_bytes m.elements ++ (vector_section 10 function_bytes m.functions ++ vector_section 11 data_bytes m.data)
