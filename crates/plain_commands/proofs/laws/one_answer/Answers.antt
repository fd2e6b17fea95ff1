use Rattle.std.proofs.Common.{◌≡◌, ◌∙◌, subst, sym}
use Rattle.wasm_ast.specs.declared.module.Module.{Module}
use Rattle.plain_commands.specs.ComputeCall.{AreCallLines}
use Rattle.plain_commands.proofs.Meanings.{outcome_of_meaning, same_lines}
use Rattle.plain_commands.proofs.laws.one_answer.Goals as goal

pub returns : goal.returns
returns c = λ bytes text a b x y.
    let same : x.m ≡ y.m = c.spells_one_module.ensures bytes x.m y.m x.loads.means y.loads.means in
    let first : AreCallLines y.m text a = subst (λ (m : Module). AreCallLines m text a) same x.answers in
    let second = y.answers in
    let ends = outcome_of_meaning y.m text first.input second.input first.outcome first.means second.means first.ends in
    let outcome = c.one_outcome.ensures.outcome y.m second.input first.outcome second.outcome ends second.ends in
    first.printed ∙ same_lines first.outcome second.outcome outcome ∙ sym second.printed
