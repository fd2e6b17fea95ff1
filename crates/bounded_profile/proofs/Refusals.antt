-- What follows from an error, and from the lack of one.
use Rattle.std.proofs.Common.{◌≡◌, ◌∙◌, ℕ, Result, Ok, Err, refl, sym, subst}
use Rattle.std.specs.Prelude.{IsErrAnd, IsOkUnless, MatchResult}
use Rattle.wasm_ast.specs.declared.module.Module.{Module}
use Rattle.verified.specs.Modules.{IsTyped}
use Rattle.verified.specs.Calls.{callees}
use Rattle.profile_rules.specs.declared.fault.ProfileFault.{ProfileFault}
use Rattle.profile_rules.specs.declared.fault.ProfileFault.TheVariants as fault
use Rattle.verified.specs.declared.facts.Facts.{Facts}
use Rattle.verified.specs.Compute.{IsComputeNumber}
use Rattle.verified.specs.Facts.{AreFacts, AreFactsAt}
use Rattle.profile_rules.specs.declared.fault.ProfileRule.{ProfileRule}
use Rattle.profile_rules.specs.declared.fault.ProfileRule.TheVariants as rule
use Rattle.profile_rules.specs.declared.constants.asks.Asks.TheVariants.{Addresses, Divisors, Slots}
use Rattle.profile_rules.specs.Faults.{Denies, KeepsRule, ShowsCycle, Refuses}
use Rattle.verified.specs.Profile.{IsBounded, AddressesWithin, AllKnown, SizeWithin}
use Rattle.bounded_profile.specs.inside.Stages.{PartsHold, ShapesHold, CallsHold}
use Rattle.bounded_profile.proofs.Computing.{one_number}
use Rattle.profile_rules.proofs.KnownVerdict.{fewer}

-- where the error denies a rule, it is right
pub refused_rule : (m : Module) (rule : ProfileRule) (e : ProfileFault) (p : Type 0) → (KeepsRule rule m → p) → Denies rule e p → Refuses m e
refused_rule m rule (fault.Breaks told place) p f d = λ k. d.1 (f (subst (λ r. KeepsRule r m) d.0 k))
refused_rule m rule (fault.Cycle functions) p f d = absurd d
refused_rule m rule fault.OutOfMemory p f d = tt

pub refused_cycle : (m : Module) (e : ProfileFault) → ShowsCycle (callees m) e → Refuses m e
refused_cycle m (fault.Breaks rule place) s = absurd s
refused_cycle m (fault.Cycle functions) s = s
refused_cycle m fault.OutOfMemory s = tt

-- a result that hands an error on
pub handed_on : {T : Type 0} (r : Result T ProfileFault) (e : ProfileFault) (P : T → Type 0) (Q : ProfileFault → Type 0)
    → IsErrAnd r (λ y. y ≡ e) → Q e → MatchResult r P Q
handed_on (Ok x) e P Q is q = absurd is
handed_on (Err y) e P Q is q = subst Q (sym is) q

pub memory_alone : {T : Type 0} (r : Result T ProfileFault) (e : ProfileFault)
    → IsErrAnd r (λ y. y ≡ e) → e ≡ fault.OutOfMemory → IsOkUnless r fault.OutOfMemory
memory_alone (Ok x) e is memory = absurd is
memory_alone (Err y) e is memory = is ∙ memory

-- a bounded module keeps each rule
keeps : (m : Module) (told : ProfileRule) → IsTyped m → IsBounded m → KeepsRule told m
keeps m rule.P1 t b = b.imports
keeps m rule.P2 t b = b.compute
keeps m rule.P3 t b = b.start
keeps m rule.P4 t b = b.elements
keeps m rule.P5 t b = b.direct
keeps m rule.P6 t b = b.reached
keeps m rule.P7 t b = b.steady
keeps m rule.P8 t b = b.ordered
keeps m rule.P9 t b = b.loops
keeps m rule.P10 t b = (b.addresses, fewer Addresses m t.bodies b.reached b.ordered b.constants)
keeps m rule.P11 t b = fewer Divisors m t.bodies b.reached b.ordered b.constants
keeps m rule.P12 t b = b.acyclic
keeps m rule.P13 t b = fewer Slots m t.bodies b.reached b.ordered b.constants
keeps m rule.P14 t b = λ compute. subst (SizeWithin m) (one_number m t.names b.compute compute) b.size

-- so its only error is that an allocation failed
pub only_memory : (m : Module) (e : ProfileFault) → IsTyped m → Refuses m e → IsBounded m → e ≡ fault.OutOfMemory
only_memory m (fault.Breaks told place) t r b = absurd (r (keeps m told t b))
only_memory m (fault.Cycle functions) t r b = absurd (b.acyclic functions.items r.0)
only_memory m fault.OutOfMemory t r b = refl

pub bounded : (m : Module) (n : ℕ) → PartsHold m → IsComputeNumber m n → ShapesHold m → AddressesWithin m → CallsHold m n → AllKnown m → IsBounded m
bounded m n p c s a l k = record {
  imports = p.imports;
  compute = c.compute;
  start = p.start;
  elements = p.elements;
  direct = s.direct;
  reached = s.reached;
  steady = s.steady;
  ordered = s.ordered;
  loops = s.loops;
  addresses = a;
  constants = k;
  acyclic = l.acyclic;
  size = subst (SizeWithin m) (sym c.here) l.size;
}

-- facts of the function with the number of `compute`
pub facts_hold : (m : Module) (n : ℕ) (facts : Facts) → IsComputeNumber m n → AreFactsAt m n facts → AreFacts m facts
facts_hold m n facts c a other = subst (λ k. AreFactsAt m k facts) (sym (c.only other)) a
