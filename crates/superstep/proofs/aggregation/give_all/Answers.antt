use Rattle.std.proofs.Common.{pos, get_or, ap, sym, ◌∙◌}
use Rattle.std.proofs.lemmas.List.Sums.{fold_more}
use Rattle.superstep.specs.Folds.{give}
use Rattle.superstep.proofs.aggregation.give_all.Goals as goal

pub loop-given-preserved : goal.loop-given-preserved
loop-given-preserved c =
    let given = c.args.contributions.now in
    c.give.ensures
    ∙ ap (λ aggregators. give aggregators (get_or given c.loop-given.given-index (0, pos 0))) c.loop-given.invariant
    ∙ sym (fold_more give c.args.aggregators.now given c.loop-given.given-index (0, pos 0) c.loop-given-test.true)
