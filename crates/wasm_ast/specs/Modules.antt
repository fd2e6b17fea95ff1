-- The module with no contents.
use Rattle.std.specs.Prelude.{[], None}
use Rattle.wasm_ast.specs.declared.module.Module.{Module}

abbrev pub empty_module : Module
empty_module = record {
  types = [];
  imports = [];
  functions = [];
  tables = [];
  memories = [];
  globals = [];
  exports = [];
  start = None;
  elements = [];
  «data» = [];
}
