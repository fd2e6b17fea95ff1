use Rattle.std.proofs.Common.{◌≡◌, ◌↔◌, drop}
use Rattle.wasm_ast.proofs.same.are_same.Given as goal

-- the items so far are the same, so all are where the rest is
abbrev pub invariant-loop-place : goal.invariant-loop-place
invariant-loop-place g l = (l.left ≡ l.right) ↔ (drop l.place l.left ≡ drop l.place l.right)
