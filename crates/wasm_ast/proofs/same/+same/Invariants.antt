use Rattle.std.proofs.Common.{◌≡◌, ◌↔◌, drop}
use Rattle.wasm_ast.specs.View.{code_of}
use Rattle.wasm_ast.proofs.same.+same.Given as goal

abbrev pub decreases-are_same_bodies : goal.decreases-are_same_bodies
decreases-are_same_bodies l = goal.size-are_same_bodies l

abbrev pub decreases-are_same_instrs : goal.decreases-are_same_instrs
decreases-are_same_instrs l = goal.size-are_same_instrs l

-- the instructions so far are the same, so all are where the rest is
abbrev pub invariant-are_same_bodies-loop-place : goal.invariant-are_same_bodies-loop-place
invariant-are_same_bodies-loop-place l =
    (code_of l.instrs ≡ code_of l.others) ↔ (code_of (drop l.place l.instrs) ≡ code_of (drop l.place l.others))
