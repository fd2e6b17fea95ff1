use Rattle.std.proofs.Common.{◌<◌, FitsSigned, w64, length, take, arith, refl, rules, ◌∙◌, length-set}
use Rattle.std.proofs.lemmas.Int.{to_z-of_z}
use Rattle.std.proofs.lemmas.List.{take_all, take_more_set}
use Rattle.std.proofs.lemmas.Result.{err_from_is_err_and}
use Rattle.checkpoint.specs.Reading.{items_at, signed_at}
use Rattle.checkpoint.proofs.Tools.{items_go_on, items_fail, items_done}
use Rattle.checkpoint.proofs.numbers.aggregators.Goals as goal

pub returns-in_err-value : goal.returns-in_err-value
returns-in_err-value c =
    let p = err_from_is_err_and c.from_residual.result c.from_residual.ensures.1 in
    rw (p.1, p.2) (items_fail c.in_err-value.field-0.0 signed_at (take c.loop-aggregator.aggregator c.loop-aggregator.aggregators) 8 c.loop-aggregator.aggregator c.loop-aggregator.rest.now (items_at signed_at 8 c.args.bytes.now) (omega arith) c.in_err-value.ensures c.loop-aggregator.invariant.read)

pub loop-aggregator-preserved : goal.loop-aggregator-preserved
loop-aggregator-preserved c =
    let aggregators = c.loop-aggregator.aggregators in
    let aggregator = c.loop-aggregator.aggregator in
    let value = c.in_ok-value.value in
    let fits : FitsSigned w64 value = search rules in
    let below : aggregator < length aggregators = omega arith in
    let front = take_more_set aggregators aggregator value below in
    let more = items_go_on signed_at (take aggregator aggregators) 8 aggregator c.loop-aggregator.rest.now c.in_ok-value.after.now value (items_at signed_at 8 c.args.bytes.now) (omega arith) c.in_ok-value.ensures c.loop-aggregator.invariant.read in
    rw (to_z-of_z w64 value fits) (record {
      long = length-set aggregators aggregator value ∙ c.loop-aggregator.invariant.long;
      read = rw front more;
    })

pub returns : goal.returns
returns c =
    let all = take_all c.loop-aggregator.aggregator c.loop-aggregator.aggregators (omega arith) in
    items_done signed_at (take c.loop-aggregator.aggregator c.loop-aggregator.aggregators) 8 c.loop-aggregator.aggregator c.loop-aggregator.rest.now (items_at signed_at 8 c.args.bytes.now) c.loop-aggregator-test.false c.loop-aggregator.invariant.read
    ∙ rw all refl
