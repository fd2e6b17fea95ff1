use Rattle.std.proofs.Common.{◌≡◌, ◌++◌, map, drop}
use Rattle.std.specs.Prelude.{filter}
use Rattle.wasm_ast.specs.Limits.{is_function}
use Rattle.verified.specs.Imports.{call_of}
use Rattle.profile_rules.proofs.hosts.host_table.Given as goal

abbrev pub invariant-loop-import : goal.invariant-loop-import
invariant-loop-import l =
    map call_of (filter is_function l.import-items) ≡ l.table.items ++ map call_of (filter is_function (drop l.import-index l.import-items))
