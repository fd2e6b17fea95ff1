use Rattle.std.proofs.Common.{◌<◌, ap, arith, false, slice_index_or, sym, ◌∙◌}
use Rattle.hub_ends.proofs.coordinator_ends.CoordinatorEnds.all_gone.Goals as goal

pub returns : goal.returns
returns g c = λ e p h.
    let s = c.args.self.now in
    let below : p < c.loop-gone.gone-index = omega (arith, c.loop-gone-test.false, c.deref-gone-items.ensures.len, s.gone_len, h) in
    sym (s.gone_is p h) ∙ ap (λ l. slice_index_or l p false) (sym c.deref-gone-items.ensures.value) ∙ c.loop-gone.invariant p below
