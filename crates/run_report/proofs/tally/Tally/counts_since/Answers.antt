use Rattle.std.proofs.Common.{◌≡◌, ◌∙◌, ◌+◌, ◌-◌, ◌≤◌, ◌++◌, ◌∷◌, [], ℕ, ap, arith, subst, sym}
use Rattle.std.proofs.lemmas.List.FromFn.{map-range_with_len_more}
use Rattle.run_report.specs.Tally.{counts_at, counts_since, units_known}
use Rattle.run_report.specs.declared.tally.Ended.{Ended}
use Rattle.run_report.specs.declared.tally.Tally.{Tally}
use Rattle.run_report.proofs.tally.Tally.counts_since.Goals as goal

-- with the counts of one more superstep
counts_more : (tally : Tally) (ended : Ended) (n : ℕ) → ended.since ≤ n → counts_since tally ended (n + 1 - ended.since) ≡ counts_since tally ended (n - ended.since) ++ counts_at tally n (units_known ended n) ∷ []
counts_more tally ended n from =
    let one_more : n + 1 - ended.since ≡ n - ended.since + 1 = omega arith in
    ap (counts_since tally ended) one_more
    ∙ map-range_with_len_more (λ superstep. counts_at tally superstep (units_known ended superstep)) ended.since (n - ended.since) n (omega arith)

pub loop-superstep-preserved : goal.loop-superstep-preserved
loop-superstep-preserved c =
    let tally = c.args.self.now in
    let ended = c.args.ended in
    let n = c.loop-superstep.superstep in record {
      items =
          c.in_ok-push.ensures.items ∙ ap (λ items. items ++ c.counts_at.result ∷ []) c.loop-superstep.invariant.items
          ∙ ap (λ counts. counts_since tally ended (n - ended.since) ++ counts ∷ []) (c.counts_at.ensures ∙ ap (counts_at tally n) c.units_known-units.ensures)
          ∙ sym (counts_more tally ended n (omega arith));
      count = omega (arith, c.in_ok-push.ensures.len, c.loop-superstep.invariant.count);
      within = omega arith;
    }

pub returns-clause-counts : goal.returns-clause-counts
returns-clause-counts c =
    let ended = c.args.ended in
    let same : c.loop-superstep.superstep - ended.since ≡ ended.superstep - ended.since = omega (arith, c.loop-superstep.invariant.within) in
    subst (λ count. c.loop-superstep.all.items ≡ counts_since c.args.self.now ended count) same c.loop-superstep.invariant.items
