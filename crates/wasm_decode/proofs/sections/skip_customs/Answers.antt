use Rattle.std.proofs.Common.{sym, ◌∙◌}
use Rattle.std.proofs.lemmas.Result.{err_from_is_err_and}
use Rattle.wasm_decode.specs.inside.ReadingModule.{skip_customs}
use Rattle.wasm_decode.proofs.Customs.{is_custom, is_no_custom, customs_fail, customs_shorter, customs_go_on, customs_done}
use Rattle.wasm_decode.proofs.sections.skip_customs.Goals as goal

pub returns-in_err-skip_custom : goal.returns-in_err-skip_custom
returns-in_err-skip_custom c =
    let p = err_from_is_err_and c.from_residual.result c.from_residual.ensures.1 in
    let first = sym c.peek.ensures ∙ is_custom c.peek.result c.each-test.ensures in
    rw (p.1, p.2) (customs_fail c.in_err-skip_custom.field-0.0 c.each.reader (skip_customs c.args.reader.now) first (rw c.pass.ensures at c.in_err-skip_custom.ensures) c.each.invariant)

pub each-smaller : goal.each-smaller
each-smaller c =
    let first = sym c.peek.ensures ∙ is_custom c.peek.result c.each-test.ensures in
    customs_shorter c.each.reader c.skip_custom.new.reader first (rw c.pass.ensures at c.in_ok-skip_custom.ensures)

pub each-preserved : goal.each-preserved
each-preserved c =
    let first = sym c.peek.ensures ∙ is_custom c.peek.result c.each-test.ensures in
    customs_go_on c.each.reader c.skip_custom.new.reader (skip_customs c.args.reader.now) first (rw c.pass.ensures at c.in_ok-skip_custom.ensures) c.each.invariant

pub returns : goal.returns
returns c =
    customs_done c.each.reader (skip_customs c.args.reader.now) (λ first. is_no_custom c.peek.result c.each-test.ensures (c.peek.ensures ∙ first)) c.each.invariant
