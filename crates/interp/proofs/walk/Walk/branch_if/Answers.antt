use Rattle.std.proofs.Common.{length, reverse, ap, ◌∙◌, subst}
use Rattle.wasm_ast.specs.declared.plain.Branch.TheVariants as branch
use Rattle.verified.specs.View.{code_of}
use Rattle.interp.specs.inside.Cells.{cell_branch}
use Rattle.interp.specs.inside.Going.{goes_on}
use Rattle.interp.specs.inside.Meaning.{Ordered, standing_of}
use Rattle.interp.proofs.Asking.{one_there, taking_asks}
use Rattle.interp.proofs.Stacked.{spare_out}
use Rattle.interp.proofs.walk.Walk.branch_if.Goals as goal

pub pop-requires : goal.pop-requires
pop-requires c =
    let s = standing_of c.self.inside in
    one_there s.values (taking_asks s.values c.args.count _ (ap (goes_on (cell_branch (branch.BrIf c.args.label)) (code_of c.args.code.now) c.args.count) c.self.view_is ∙ c.requires.goes))

pub jump-requires-clause-spare : goal.jump-requires-clause-spare
jump-requires-clause-spare c =
    let i = c.self.inside in
    let same = ap (λ s. length s.below.values) c.pop.ensures.popped in
    let ordered = subst (λ n. Ordered (reverse i.entries.items) n (length i.locals.below.values)) same c.self.invariant in
    spare_out (reverse i.entries.items) c.pop.new.self i.locals.below.values ordered c.pop.ensures.spare
