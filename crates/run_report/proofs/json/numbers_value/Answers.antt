use Rattle.std.proofs.Common.{◌∙◌, ◌+◌, ap, map}
use Rattle.std.proofs.lemmas.List.{take_all}
use Rattle.serde_json.proofs.Views.{view-Array}
use Rattle.serde_json.specs.Data.{array}
use Rattle.serde_json.specs.View.{items_of, view}
use Rattle.run_report.specs.Json.{number_data}
use Rattle.run_report.proofs.Mapped.{mapped_more}
use Rattle.run_report.proofs.json.numbers_value.Goals as goal

pub returns : goal.returns
returns c =
    view-Array c.loop-number.values ∙ ap (λ xs. array (items_of xs)) (c.loop-number.invariant.values ∙ ap (map number_data) (take_all c.loop-number.number-index c.args.numbers.now c.loop-number-test.false))

pub loop-number-preserved : goal.loop-number-preserved
loop-number-preserved c =
    let pushed = c.push_reserved.ensures in
    let so_far = c.loop-number.invariant in
    record {
      values = mapped_more view number_data c.args.numbers.now c.loop-number.number-index 0 _ _ _ c.loop-number-test.true pushed.items c.from.ensures so_far.values;
      len = pushed.len ∙ ap (λ n. n + 1) so_far.len;
      room = pushed.capacity ∙ so_far.room;
    }
