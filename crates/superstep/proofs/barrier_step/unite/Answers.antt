use Rattle.std.proofs.Common.{◌≡◌, ◌≢◌, ℕ, ℤ, pos, ◌+◌, ◌<◌, ◌≤◌, List, length, get_or, set, FitsSigned, w64, of_z, to_z, arith, rules, ap, ◌∙◌, below_more, length-set, get_or-set_same, get_or-set_other}
use Rattle.std.proofs.lemmas.Int.{to_z-of_z}
use Rattle.superstep.specs.Folds.{combined}
use Rattle.superstep.proofs.Aggregating.{united_is}
use Rattle.superstep.proofs.barrier_step.unite.Goals as goal

done_more : (aggregators old given : List ℤ) (aggregator : ℕ) (value : ℤ) → aggregator < length aggregators
    → ((k : ℕ) → k < aggregator → get_or aggregators k (pos 0) ≡ combined k (get_or old k (pos 0)) (get_or given k (pos 0)))
    → value ≡ combined aggregator (get_or old aggregator (pos 0)) (get_or given aggregator (pos 0))
    → (k : ℕ) → k < aggregator + 1 → get_or (set aggregators aggregator value) k (pos 0) ≡ combined k (get_or old k (pos 0)) (get_or given k (pos 0))
done_more aggregators old given aggregator value below done is =
    below_more (λ k. get_or (set aggregators aggregator value) k (pos 0) ≡ combined k (get_or old k (pos 0)) (get_or given k (pos 0))) aggregator
    (λ k before. let apart : k ≢ aggregator = omega arith in get_or-set_other aggregators aggregator k value (pos 0) apart ∙ done k before)
    (get_or-set_same aggregators aggregator value (pos 0) below ∙ is)

kept_more : (aggregators old : List ℤ) (aggregator : ℕ) (value : ℤ) → ((k : ℕ) → aggregator ≤ k → get_or aggregators k (pos 0) ≡ get_or old k (pos 0))
    → (k : ℕ) → aggregator + 1 ≤ k → get_or (set aggregators aggregator value) k (pos 0) ≡ get_or old k (pos 0)
kept_more aggregators old aggregator value kept k above =
    let apart : k ≢ aggregator = omega arith in get_or-set_other aggregators aggregator k value (pos 0) apart ∙ kept k (omega arith)

pub loop-aggregator-preserved : goal.loop-aggregator-preserved
loop-aggregator-preserved c =
    let aggregators = c.loop-aggregator.aggregators in
    let aggregator = c.loop-aggregator.aggregator in
    let old = get_or aggregators aggregator (pos 0) in
    let given = get_or c.args.given.now aggregator (pos 0) in
    let old_fits : FitsSigned w64 old = search rules in
    let given_fits : FitsSigned w64 given = search rules in
    let fits : FitsSigned w64 c.combined.result = search rules in
    let was : old ≡ get_or c.args.aggregators.now aggregator (pos 0) = c.loop-aggregator.invariant.kept aggregator (omega arith) in
    let value : to_z w64 (of_z w64 c.combined.result) ≡ combined aggregator (get_or c.args.aggregators.now aggregator (pos 0)) given =
    to_z-of_z w64 c.combined.result fits ∙ c.combined.ensures
    ∙ ap (λ x. combined aggregator x (to_z w64 (of_z w64 given))) (to_z-of_z w64 old old_fits)
    ∙ ap (combined aggregator old) (to_z-of_z w64 given given_fits)
    ∙ ap (λ x. combined aggregator x given) was in
    record {
      long = length-set aggregators aggregator _ ∙ c.loop-aggregator.invariant.long;
      done = done_more aggregators c.args.aggregators.now c.args.given.now aggregator _ (omega arith) c.loop-aggregator.invariant.done value;
      kept = kept_more aggregators c.args.aggregators.now aggregator _ c.loop-aggregator.invariant.kept;
    }

pub returns : goal.returns
returns c =
    united_is c.args.aggregators.now c.args.given.now c.loop-aggregator.aggregators c.loop-aggregator.invariant.long
    (λ aggregator below. c.loop-aggregator.invariant.done aggregator (omega arith))
