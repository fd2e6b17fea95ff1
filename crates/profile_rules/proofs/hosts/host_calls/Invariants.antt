use Rattle.std.proofs.Common.{◌≡◌, ◌++◌, Some, map, drop}
use Rattle.std.specs.Prelude.{filter}
use Rattle.std.specs.List.{AllByRecursion}
use Rattle.wasm_ast.specs.Limits.{is_function}
use Rattle.verified.specs.Imports.{call_of}
use Rattle.verified.specs.Hosts.{IsHostImport}
use Rattle.profile_rules.proofs.hosts.host_calls.Given as goal

abbrev pub invariant-loop-import : goal.invariant-loop-import
invariant-loop-import l = record {
  rest : AllByRecursion (IsHostImport l.«module») (drop l.import-index l.import-items);
  calls : map call_of (filter is_function l.import-items) ≡ map Some l.calls.items ++ map call_of (filter is_function (drop l.import-index l.import-items));
}
