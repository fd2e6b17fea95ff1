use Rattle.std.proofs.Common.{rules, ◌≡◌, ap, ◌∙◌}
use Rattle.wasm_ast.specs.Code.{Code}
use Rattle.wasm_ast.specs.Code as code
use Rattle.verified.specs.declared.body.FlatInstr.{FlatInstr}
use Rattle.verified.specs.declared.body.FlatInstr.TheVariants as flat
use Rattle.verified.specs.View.{code_of, then_code}
use Rattle.interp.proofs.Items.{goes_in}
use Rattle.interp.proofs.straight.take_item.Goals as goal

pub returns-then-take_by : goal.returns-then-take_by
returns-then-take_by c =
    let s = c.in-Some-Call-default in
    let whole = code_of c.args.code.now in
    let test = c.in-Some.ensures in
    let head : whole ≡ then_code s.field-0-0.now (code_of s.rest.now) = search rules in
    let called : s.field-0-0.now ≡ flat.Call s.number = search rules in
    let begins = head ∙ ap (λ (i : FlatInstr). then_code i (code_of s.rest.now)) called ∙ ap (λ (k : Code). code.call s.number k) test.1 in
    goes_in c.args.program.module.now c.args.program.calls.now c.requires whole (code_of c.in-Some.body.now) s.number test.0 begins c.host_call.result c.host_call.ensures c.args.host.now c.take_by.new.host (c.take_by.ensures.some c.if-take_by.true)
