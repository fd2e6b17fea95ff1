-- A copy of a module part by part: each function replaces some fields of a copy by those of the module.
use Rattle.wasm_ast.specs.declared.module.Module.{Module}

abbrev pub with_functions_of : (made m : Module) → Module
with_functions_of made m = record made { types = m.types; imports = m.imports; functions = m.functions }

abbrev pub with_spaces_of : (made m : Module) → Module
with_spaces_of made m =
    record made { tables = m.tables; memories = m.memories; globals = m.globals; exports = m.exports }

abbrev pub with_segments_of : (made m : Module) → Module
with_segments_of made m = record made { elements = m.elements; «data» = m.data }
