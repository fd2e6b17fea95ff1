use Rattle.wasm_decode.proofs.CanonicalGroups.{Counted}
use Rattle.wasm_decode.proofs.encoder.functions.group_count.Given as goal

abbrev pub invariant-loop-local : goal.invariant-loop-local
invariant-loop-local l = Counted l.fn.first l.others l.groups l.val_type l.local-index
