use Rattle.std.proofs.Common.{◌↔◌, drop}
use Rattle.wasm_ast.specs.Code.{size_of}
use Rattle.wasm_ast.specs.declared.body.Body.TheDeep.{deep-Instr}
use Rattle.wasm_ast.specs.View.{code_of}
use Rattle.verified.specs.Shapes.{NamesNot}
use Rattle.profile_rules.specs.inside.Closing.{LabelFits}
use Rattle.profile_rules.proofs.loops.+code.Given as goal

abbrev pub decreases-names_not : goal.decreases-names_not
decreases-names_not l = size_of (code_of l.instrs.now)

abbrev pub decreases-names_not_at : goal.decreases-names_not_at
decreases-names_not_at l = deep-Instr l.instr.now

-- what was looked at does not name the label, so all does not where the rest does not
abbrev pub invariant-names_not-loop-instr : goal.invariant-names_not-loop-instr
invariant-names_not-loop-instr l = record {
  fits : LabelFits l.label (code_of (drop l.instr-index l.instrs));
  same : NamesNot l.label (code_of l.instrs) ↔ NamesNot l.label (code_of (drop l.instr-index l.instrs));
}
