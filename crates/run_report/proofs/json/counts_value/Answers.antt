use Rattle.std.proofs.Common.{◌∙◌, ◌+◌, ap, map}
use Rattle.std.proofs.lemmas.List.{take_all}
use Rattle.serde_json.proofs.Views.{view-Array}
use Rattle.serde_json.specs.Data.{array}
use Rattle.serde_json.specs.View.{items_of, view}
use Rattle.run_report.specs.Json.{superstep_data}
use Rattle.run_report.proofs.Mapped.{mapped_more}
use Rattle.run_report.proofs.json.counts_value.Goals as goal

pub returns : goal.returns
returns c =
    view-Array c.loop-counts.values ∙ ap (λ xs. array (items_of xs)) (c.loop-counts.invariant.values ∙ ap (map superstep_data) (take_all c.loop-counts.counts-index c.args.counts.now c.loop-counts-test.false))

pub loop-counts-preserved : goal.loop-counts-preserved
loop-counts-preserved c =
    let pushed = c.push_reserved.ensures in
    let so_far = c.loop-counts.invariant in
    record {
      values = mapped_more view superstep_data c.args.counts.now c.loop-counts.counts-index _ _ _ _ c.loop-counts-test.true pushed.items c.in_ok-value.ensures so_far.values;
      len = pushed.len ∙ ap (λ n. n + 1) so_far.len;
      room = pushed.capacity ∙ so_far.room;
    }
