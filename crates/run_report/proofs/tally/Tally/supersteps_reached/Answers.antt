use Rattle.std.proofs.Common.{◌≡◌, ◌∙◌, ◌+◌, ◌<◌, ◌++◌, ◌∷◌, [], ℕ, None, ap, arith, subst, sym, vec_len}
use Rattle.std.proofs.lemmas.List.FromFn.{map-range_with_len_more}
use Rattle.run_report.specs.Tally.{StopsAt, counts_at, counts_until}
use Rattle.run_report.specs.declared.tally.Tally.{Tally}
use Rattle.run_report.proofs.tally.Tally.supersteps_reached.Goals as goal

-- with the counts of one more superstep
counts_more : (tally : Tally) (n : ℕ) → counts_until tally (n + 1) ≡ counts_until tally n ++ counts_at tally n None ∷ []
counts_more tally n = map-range_with_len_more (λ superstep. counts_at tally superstep None) 0 n n (omega arith)

pub loop-superstep-preserved : goal.loop-superstep-preserved
loop-superstep-preserved c =
    let tally = c.args.self.now in
    let n = c.loop-superstep.superstep in record {
      items =
          c.in_ok-push.ensures.items ∙ ap (λ items. items ++ c.counts_at.result ∷ []) c.loop-superstep.invariant.items
          ∙ ap (λ counts. counts_until tally n ++ counts ∷ []) c.counts_at.ensures ∙ sym (counts_more tally n);
      count = omega (arith, c.in_ok-push.ensures.len, c.loop-superstep.invariant.count);
    }

pub returns-clause-counts : goal.returns-clause-counts
returns-clause-counts c =
    subst (λ count. c.loop-superstep.all.items ≡ counts_until c.args.self.now count) (sym c.loop-superstep.invariant.count) c.loop-superstep.invariant.items

pub returns-clause-stops : goal.returns-clause-stops
returns-clause-stops c =
    let same : vec_len c.loop-superstep.all ≡ c.reached-superstep-end.result = omega (arith, c.loop-superstep.invariant.count) in
    subst (λ count. count < 4294967295 → StopsAt c.args.self.now count) (sym same) c.reached-superstep-end.ensures.stops
