use Rattle.std.proofs.Common.{sym, ap, ◌∙◌}
use Rattle.verified.specs.declared.body.FlatInstr.{FlatInstr}
use Rattle.verified.specs.View.{code_of, then_code}
use Rattle.verified.proofs.Codes.{others_plain}
use Rattle.interp.specs.inside.Straight.{is_straight}
use Rattle.interp.proofs.Passing.{no_host_call, plain_goes}
use Rattle.interp.proofs.walk.Walk.take.Goals as goal

pub unreachable-requires-in_default : goal.unreachable-requires-in_default
unreachable-requires-in_default c =
    let d = c.in_default in
    let plain = others_plain c.args.first.now d.not-Br d.not-BrIf d.not-Branch d.not-Call d.not-CallIndirect d.not-Unreachable d.not-Block d.not-Loop d.not-If in
    plain_goes c.args.program.calls.now c.args.first.now (code_of c.args.rest.now) d.not-Call plain c.requires.stops

pub call-requires-clause-other : goal.call-requires-clause-other
call-requires-clause-other c =
    let rest = code_of c.args.rest.now in
    no_host_call c.args.program.calls.now c.in-Call.number rest
    (sym (ap (λ (i : FlatInstr). is_straight c.args.program.calls.now (then_code i rest)) c.in-Call.is) ∙ c.requires.stops)
