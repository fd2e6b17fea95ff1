use Rattle.std.proofs.Common.{◌≡◌, ◌<◌, ◌∙◌, sym, ap, subst, length, true, false, arith}
use Rattle.std.proofs.lemmas.List.{get_or_read}
use Rattle.control.proofs.ByPlace.{count_unset}
use Rattle.control.proofs.control.Control.hand.Goals.{then-index, else-index}
use Rattle.control.specs.Machine.{Machine, count_set}
use Rattle.control.proofs.control.Control.hand.Goals as goal

pub least_part-requires : goal.least_part-requires
least_part-requires c =
    let alive : c.index.result.now ≡ true = elim c.if-index.branch [
      | then-index w ↦ w.if-index.true
      | else-index w ↦ sym w.value-is ∙ c.if-is_none.true
    ] in
    let below = subst (λ (m : Machine). c.args.worker < length m.alive) (sym c.self.view_is) c.requires in
    let read = get_or_read c.self.inside.alive.items _ _ below c.index.ensures false in
    omega (arith, count_unset c.self.inside.alive.items c.args.worker (sym read ∙ alive), c.count_set-count.ensures.count, ap (λ flags. count_set flags) c.deref.ensures.value)
