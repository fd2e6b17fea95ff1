use Rattle.std.proofs.Common.{Some, ap, sym, ◌∙◌, option_map}
use Rattle.interp.specs.inside.Meaning.{callee_of}
use Rattle.interp.proofs.Functions.{no_host}
use Rattle.interp.proofs.Running.{few_locals}
use Rattle.interp.proofs.walk.Walk.call.Goals as goal

pub enter-requires-clause-few : goal.enter-requires-clause-few
enter-requires-clause-few c =
    few_locals c.args.program.module.now c.requires.within c.args.number c.in-Some-Defined.definition.function.now
    (sym c.callee.ensures.there ∙ ap (λ o. option_map callee_of o) (c.in-Some-Defined.is ∙ ap Some c.in-Some-Defined.field-0-is))

pub unreachable-requires-in-Some-Host : goal.unreachable-requires-in-Some-Host
unreachable-requires-in-Some-Host c =
    no_host c.args.program.module.now c.args.program.calls.now c.requires.calls c.args.number _ c.requires.other
    (sym (ap (λ o. option_map callee_of o) (c.in-Some-Host.is ∙ ap Some c.in-Some-Host.field-0-is)) ∙ c.callee.ensures.there)
