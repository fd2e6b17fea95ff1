use Rattle.std.proofs.Common.{◌-◌, ◌^◌, arith, subst}
use Rattle.wasm_ast.specs.Code.{end}
use Rattle.wasm_ast.specs.Limits.{IsBodyWithin, max_nesting}
use Rattle.wasm_ast.specs.View.{then_code}
use Rattle.profile_rules.proofs.Nested.{within_more}
use Rattle.profile_rules.proofs.shapes.is_kept.Goals as goal

pub takes_items-requires : goal.takes_items-requires
takes_items-requires c =
    let w = subst (λ i. IsBodyWithin (then_code i end)) c.in-Loop.is c.requires in
    within_more (max_nesting - 1) (2 ^ 32 - 1) (omega arith) c.in-Loop.body w.1
