use Rattle.std.proofs.Common.{◌∙◌, subst}
use Rattle.wasm_ast.specs.declared.module.Module.{Module}
use Rattle.wasm_ast.specs.Limits.{IsWithinLimits}
use Rattle.verified.specs.Modules.{IsTyped}
use Rattle.verified.specs.Profile.{IsBounded}
use Rattle.interp.proofs.scratch.Scratch.program_for.Goals as goal

pub returns-clause-typed : goal.returns-clause-typed
returns-clause-typed c = subst (λ (m : Module). IsTyped m) (c.self.view_is ∙ c.requires) c.of.ensures.typed

pub returns-clause-within : goal.returns-clause-within
returns-clause-within c = subst (λ (m : Module). IsWithinLimits m) (c.self.view_is ∙ c.requires) c.of.ensures.within

pub returns-clause-bounded : goal.returns-clause-bounded
returns-clause-bounded c = subst (λ (m : Module). IsBounded m) (c.self.view_is ∙ c.requires) c.of.ensures.bounded
