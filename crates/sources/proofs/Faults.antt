-- What a fault below says of a command.
use Rattle.std.proofs.Common.{◌≡◌, ℕ, Bool, List, Result, Ok, Err, ap, subst, sym}
use Rattle.std.specs.Prelude.{IfErr, IfOk, IsErrAnd, MatchResult, OnErr}
use Rattle.wasm_ast.specs.declared.module.Module.{Module}
use Rattle.wasm_ast.specs.Limits.{IsWithinLimits}
use Rattle.verified.specs.Modules.{IsTyped}
use Rattle.profile_rules.specs.declared.fault.ProfileFault.{ProfileFault}
use Rattle.profile_rules.specs.Faults.{Refuses as RefusesModule}
use Rattle.verified.specs.Profile.{IsBounded}
use Rattle.sources.specs.Modules.{Loads, MeansBy}
use Rattle.sources.specs.Source.{IsUnbounded}

pub is_fault : {A E : Type 0} (r : Result A E) (fault : E) → IsErrAnd r (λ e. e ≡ fault) → r ≡ Err fault
is_fault (Ok x) fault h = absurd h
is_fault (Err e) fault h = ap Err h

pub IfOk-along : {A E : Type 0} {P Q : A → Type 0} (r : Result A E) → ((x : A) → P x → Q x) → IfOk r P → IfOk r Q
IfOk-along (Ok x) go h = go x h
IfOk-along (Err e) go h = h

pub IfErr-along : {A E : Type 0} {P Q : E → Type 0} (r : Result A E) → ((e : E) → P e → Q e) → IfErr r P → IfErr r Q
IfErr-along (Ok x) go h = h
IfErr-along (Err e) go h = go e h

-- why the profile refuses a module that was found valid
pub unbounded : (m valid : Module) (fault : ProfileFault) → valid ≡ m → IsTyped m × IsWithinLimits m → RefusesModule valid fault → IsUnbounded m fault
unbounded m valid fault same (typed, within) refused =
    record { typed = typed; within = within; refused = subst (λ (x : Module). RefusesModule x fault) same refused }

-- the module that was read, valid and in the bounded profile, is loaded
pub loaded : (is_text : Bool) (content : List ℕ) (m verified : Module) → verified ≡ m → MeansBy is_text content m → IsTyped m × IsWithinLimits m
    → IsBounded m → Loads is_text content verified
loaded is_text content m verified same means (typed, within) bounded =
    let here : Loads is_text content m = record { means = means; verified = record { typed = typed; within = within; bounded = bounded } } in
    subst (λ (x : Module). Loads is_text content x) (sym same) here

pub OnErr-along : {A E P Q : Type 0} (r : Result A E) → (P → Q) → OnErr r P → OnErr r Q
OnErr-along (Ok x) go h = h
OnErr-along (Err e) go h = go h

pub MatchResult-along : {A E : Type 0} {P P' : A → Type 0} {Q Q' : E → Type 0} (r : Result A E) → ((x : A) → P x → P' x) → ((e : E) → Q e → Q' e)
    → MatchResult r P Q → MatchResult r P' Q'
MatchResult-along (Ok x) go other h = go x h
MatchResult-along (Err e) go other h = other e h

pub told_both : {A E : Type 0} {P P' : A → Type 0} {Q Q' : E → Type 0} (r : Result A E) → ((x : A) → P x → P' x) → ((e : E) → Q e → Q' e)
    → IfOk r P → IfErr r Q → MatchResult r P' Q'
told_both (Ok x) go other found refused = go x found
told_both (Err e) go other found refused = other e refused
