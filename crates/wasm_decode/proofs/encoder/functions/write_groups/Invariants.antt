use Rattle.std.proofs.Common.{◌++◌}
use Rattle.std.specs.List.{flat_map}
use Rattle.wasm_decode.specs.Canonical.{groups_from, group_bytes}
use Rattle.wasm_decode.proofs.CanonicalGroups.{Grouped}
use Rattle.wasm_decode.proofs.encoder.functions.write_groups.Given as goal

abbrev pub invariant-loop-local : goal.invariant-loop-local
invariant-loop-local l =
    Grouped l.others (l.fn.out.items ++ flat_map group_bytes (groups_from 1 l.fn.first l.others)) l.out.items l.count l.val_type l.local-index
