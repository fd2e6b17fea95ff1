use Rattle.std.proofs.Common.{◌≡◌, ◌∙◌, inl, inr, subst, sym}
use Rattle.wasm_ast.specs.declared.module.Module.{Module}
use Rattle.verified.specs.Profile.{IsBounded}
use Rattle.sources.specs.Modules.{IsVerified}
use Rattle.sources.specs.Source.{content, is_text}
use Rattle.sources.proofs.Faults.{is_fault, loaded, unbounded}
use Rattle.sources.proofs.modules.load.Goals as goal

pub returns-in_err-module-clause-only : goal.returns-in_err-module-clause-only
returns-in_err-module-clause-only c = λ m spelled verified.
    rw (is_fault _ _ c.from_residual.ensures.1) (c.in_err-module.ensures.only m spelled)

pub returns-in_err-module-clause-refused : goal.returns-in_err-module-clause-refused
returns-in_err-module-clause-refused c = rw (is_fault _ _ c.from_residual.ensures.1) (inl c.in_err-module.ensures.found)

pub returns-in_err-valid-clause-only : goal.returns-in_err-valid-clause-only
returns-in_err-valid-clause-only c = λ m spelled verified.
    let here = subst (λ (x : Module). IsVerified x) (sym (c.in_ok-module.ensures.only m spelled)) verified in
    rw (is_fault _ _ c.from_residual-in_err-valid.ensures.1) (c.in_err-valid.ensures.refused here.typed here.within)

pub returns-in_err-valid-clause-refused : goal.returns-in_err-valid-clause-refused
returns-in_err-valid-clause-refused c =
    rw (is_fault _ _ c.from_residual-in_err-valid.ensures.1)
    (inr (c.in_ok-module.module, c.in_ok-module.ensures.found, c.in_err-valid.ensures.refused))

pub returns-in_err-verified-clause-only : goal.returns-in_err-verified-clause-only
returns-in_err-verified-clause-only c = λ m spelled verified.
    let here = subst (λ (x : Module). IsVerified x) (sym (c.in_ok-module.ensures.only m spelled)) verified in
    let kept : c.in_ok-valid.valid ≡ c.in_ok-module.module = c.in_ok-valid.ensures.kept in
    rw (is_fault _ _ c.from_residual-in_err-verified.ensures.1)
    (c.in_err-verified.ensures.refused (subst (λ (x : Module). IsBounded x) (sym kept) here.bounded))

pub returns-in_err-verified-clause-refused : goal.returns-in_err-verified-clause-refused
returns-in_err-verified-clause-refused c =
    rw (is_fault _ _ c.from_residual-in_err-verified.ensures.1)
    (inr (
      c.in_ok-module.module,
      c.in_ok-module.ensures.found,
      unbounded c.in_ok-module.module c.in_ok-valid.valid c.in_err-verified.field-0.0 c.in_ok-valid.ensures.kept c.in_ok-valid.ensures.accepted
          c.in_err-verified.ensures.told,
    ))

pub returns-clause-loaded : goal.returns-clause-loaded
returns-clause-loaded c =
    let kept : c.in_ok-valid.valid ≡ c.in_ok-module.module = c.in_ok-valid.ensures.kept in
    loaded (is_text c.args.source.now) (content c.args.source.now) c.in_ok-module.module c.in_ok-verified.verified
    (c.in_ok-verified.ensures.kept ∙ kept) c.in_ok-module.ensures.found c.in_ok-valid.ensures.accepted
    (subst (λ (x : Module). IsBounded x) kept c.in_ok-verified.ensures.accepted)

pub returns-clause-only : goal.returns-clause-only
returns-clause-only c = λ m spelled verified.
    let same : c.in_ok-module.module ≡ m = c.in_ok-module.ensures.only m spelled in
    let kept : c.in_ok-valid.valid ≡ c.in_ok-module.module = c.in_ok-valid.ensures.kept in
    c.in_ok-verified.ensures.kept ∙ kept ∙ same
