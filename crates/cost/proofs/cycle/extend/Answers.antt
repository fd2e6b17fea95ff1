use Rattle.std.proofs.Common.{◌≡◌, is_ok, subst, sym}
use Rattle.std.specs.List.{AllByRecursion}
use Rattle.cost.specs.declared.table.Mark.TheVariants.{Unseen}
use Rattle.verified.specs.Cycles.{AreDistinct}
use Rattle.cost.specs.Marks.{mark_at}
use Rattle.cost.specs.inside.Stops.{AreFresh}
use Rattle.cost.proofs.Distinct.{distinct_on, pushed, unseen_on}
use Rattle.cost.proofs.cycle.extend.Goals as goal

pub returns-then-target-caller-clause-fresh : goal.returns-then-target-caller-clause-fresh
returns-then-target-caller-clause-fresh c old new before was now fresh =
    let f = subst (AreFresh new) c.in-Back.is fresh in
    let more = pushed c.push.new.self.items c.in-Back.trail.items c.args.caller (is_ok c.push.result) c.push.ensures.items c.if-is_err.ensures.negation in
    subst AreDistinct (sym more) (distinct_on old new before c.args.caller was now c.in-Back.trail.items f.0 f.1)

pub returns-else-target-caller-clause-fresh : goal.returns-else-target-caller-clause-fresh
returns-else-target-caller-clause-fresh c old new before was now fresh =
    let f = subst (AreFresh new) c.in-Back.is fresh in
    let more = pushed c.push.new.self.items c.in-Back.trail.items c.args.caller (is_ok c.push.result) c.push.ensures.items c.if-is_err.ensures.negation in
    subst (λ xs. AreDistinct xs × AllByRecursion (λ g. mark_at old g ≡ Unseen) xs) (sym more) (distinct_on old new before c.args.caller was now c.in-Back.trail.items f.0 f.1, unseen_on old new before c.args.caller was now c.in-Back.trail.items f.1)
