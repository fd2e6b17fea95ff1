use Rattle.std.proofs.Common.{FitsSigned, w64, rules}
use Rattle.std.proofs.lemmas.Int.{to_z-of_z}
use Rattle.std.proofs.lemmas.Result.{err_from_is_err_and}
use Rattle.checkpoint.specs.Reading.{items_at, signed_at}
use Rattle.checkpoint.proofs.Tools.{items_go_on, items_fail, items_done}
use Rattle.checkpoint.proofs.vertices.read_few.Goals as goal

pub returns-in_err-message : goal.returns-in_err-message
returns-in_err-message c =
    let p = err_from_is_err_and c.from_residual.result c.from_residual.ensures.1 in
    rw (p.1, p.2) (items_fail c.in_err-message.field-0.0 signed_at c.loop.inbox c.args.count c.loop.counter c.loop.rest.now (items_at signed_at c.args.count c.args.bytes.now) c.loop-test.true c.in_err-message.ensures c.loop.invariant)

pub loop-preserved : goal.loop-preserved
loop-preserved c =
    let message = c.in_ok-message.message in
    let fits : FitsSigned w64 message = search rules in
    let more = items_go_on signed_at c.loop.inbox c.args.count c.loop.counter c.loop.rest.now c.in_ok-message.after.now message (items_at signed_at c.args.count c.args.bytes.now) c.loop-test.true c.in_ok-message.ensures c.loop.invariant in
    rw (c.in_ok-push.ensures.ok, to_z-of_z w64 message fits) more

pub returns : goal.returns
returns c = items_done signed_at c.loop.inbox c.args.count c.loop.counter c.loop.rest.now (items_at signed_at c.args.count c.args.bytes.now) c.loop-test.false c.loop.invariant
