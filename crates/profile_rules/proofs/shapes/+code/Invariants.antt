use Rattle.std.proofs.Common.{◌↔◌, drop}
use Rattle.wasm_ast.specs.Limits.{IsBodyWithin}
use Rattle.wasm_ast.specs.View.{code_of}
use Rattle.verified.specs.Hosts.{call_at}
use Rattle.verified.specs.Shapes.{Everywhere, Keeps}
use Rattle.profile_rules.proofs.shapes.+code.Given as goal

abbrev pub decreases-is_kept_in : goal.decreases-is_kept_in
decreases-is_kept_in l = goal.size-is_kept_in l

abbrev pub decreases-is_kept_at : goal.decreases-is_kept_at
decreases-is_kept_at l = goal.size-is_kept_at l

-- what was looked at keeps the rule, so all does where the rest does
abbrev pub invariant-is_kept_in-loop-index : goal.invariant-is_kept_in-loop-index
invariant-is_kept_in-loop-index l = record {
  within : IsBodyWithin (code_of (drop l.index l.instrs));
  same : Everywhere (Keeps (call_at l.hosts) l.shape) (code_of l.instrs) ↔ Everywhere (Keeps (call_at l.hosts) l.shape) (code_of (drop l.index l.instrs));
}
