use Rattle.std.proofs.Common.{reverse, sym, ap, ◌∙◌, subst}
use Rattle.wasm_ast.specs.declared.plain.Branch.TheVariants as branch
use Rattle.wasm_ast.specs.Code.{end}
use Rattle.semantics.specs.Machine.{first}
use Rattle.interp.specs.inside.Cells.{cell_branch}
use Rattle.interp.specs.inside.Going.{goes_on}
use Rattle.interp.specs.inside.Meaning.{standing_of}
use Rattle.interp.specs.inside.Place.{HasOperandRoom, state_of}
use Rattle.interp.proofs.Asking.{jump_asks}
use Rattle.interp.proofs.Stacked.{spare_out, spare_in}
use Rattle.interp.proofs.walk.Walk.jump.Goals as goal

pub unwind-requires-clause-there : goal.unwind-requires-clause-there
unwind-requires-clause-there c =
    let s = standing_of c.self.inside in
    jump_asks c.args.label (first s.values) s.entries (state_of s c.args.count) (ap (goes_on (cell_branch (branch.Br c.args.label)) end c.args.count) c.self.view_is ∙ c.requires.goes)

pub arrive-requires-clause-spare : goal.arrive-requires-clause-spare
arrive-requires-clause-spare c =
    let i = c.self.inside in
    let spare = spare_in (reverse i.entries.items) i.operands i.locals.below.values c.self.invariant (subst HasOperandRoom (sym c.self.view_is) c.requires.spare) in
    spare_out (reverse c.unwind.new.entries.items) c.unwind.new.operands i.locals.below.values c.unwind.ensures.ordered (c.unwind.ensures.spare spare)
