use Rattle.std.proofs.Common.{length, reverse, refl, subst, sym, ap, ◌∙◌}
use Rattle.verified.specs.Cycles.{AreDistinct, IsCycle, LeastFirst}
use Rattle.cost.specs.inside.Stops.{AreFresh, Leaves}
use Rattle.cost.proofs.Cycles.{turned_cycle, written_back}
use Rattle.cost.proofs.Distinct.{distinct_reverse, distinct_turned}
use Rattle.cost.proofs.cycle.explain.Goals as goal

pub unreachable-requires : goal.unreachable-requires
unreachable-requires c = let h = rw c.in-Back.is at c.requires in h c.in-Back.field-0 refl

pub returns-in-Cycle : goal.returns-in-Cycle
returns-in-Cycle c calls f marks h fresh =
    let g : IsCycle calls (reverse c.in-Cycle.trail.items) = subst (Leaves calls f) c.in-Cycle.is h in
    let e = written_back c.in-Cycle.trail.items c.rotate_to_least.new.cycle c.in-Cycle.trail.len c.in-Cycle.trail.ok.0 (c.rotate_to_least.auto.cycle ∙ c.reverse.ensures.len ∙ ap length c.as_mut_slice-items.ensures.value) in
    let i : IsCycle calls c.reverse.new.self = subst (IsCycle calls) (sym (c.reverse.ensures.after ∙ ap reverse c.as_mut_slice-items.ensures.value)) g in
    let t = c.rotate_to_least.ensures.turned in
    let a : AreDistinct c.in-Cycle.trail.items = subst (AreFresh marks) c.in-Cycle.is fresh in
    let d : AreDistinct c.reverse.new.self = subst AreDistinct (sym (c.reverse.ensures.after ∙ ap reverse c.as_mut_slice-items.ensures.value)) (distinct_reverse c.in-Cycle.trail.items a) in
    subst (λ zs. IsCycle calls zs × LeastFirst zs × AreDistinct zs) (sym e) (turned_cycle calls c.reverse.new.self c.rotate_to_least.new.cycle t.0 t.2 i, c.rotate_to_least.ensures.least, distinct_turned c.reverse.new.self c.rotate_to_least.new.cycle t.0 t.2 d)
