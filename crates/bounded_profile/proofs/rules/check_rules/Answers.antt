use Rattle.std.proofs.Common.{◌≡◌, subst}
use Rattle.verified.specs.Modules.{IsTyped}
use Rattle.profile_rules.specs.declared.fault.ProfileFault.TheVariants as fault
use Rattle.profile_rules.specs.declared.fault.ProfileRule.TheVariants.{P10, P11}
use Rattle.verified.specs.Compute.{IsComputeNumber}
use Rattle.profile_rules.specs.Faults.{Refuses}
use Rattle.verified.specs.Known.{ConstantsKnown}
use Rattle.verified.specs.Profile.{asks_all, asks_divisors}
use Rattle.bounded_profile.specs.inside.Stages.{PartsHold, ShapesHold}
use Rattle.profile_rules.proofs.KnownVerdict.{together}
use Rattle.bounded_profile.proofs.Refusals.{refused_rule, handed_on, memory_alone, only_memory, bounded, facts_hold}
use Rattle.bounded_profile.proofs.rules.check_rules.Goals as goal

pub returns-in_err-compute-clause-decided : goal.returns-in_err-compute-clause-decided
returns-in_err-compute-clause-decided c =
    let m = c.args.valid.now in
    let e = c.in_err-compute.field-0.0 in
    handed_on c.from_residual.result e _ (Refuses m) c.from_residual.ensures.1 (subst (λ n. Refuses n e) c.module-module.ensures.value c.in_err-compute.ensures)

pub returns-in_err-compute-clause-refused : goal.returns-in_err-compute-clause-refused
returns-in_err-compute-clause-refused c keeps =
    let m = c.args.valid.now in
    let e = c.in_err-compute.field-0.0 in
    let typed : IsTyped m = c.module-module.ensures.typed in
    let memory : e ≡ fault.OutOfMemory = only_memory m e typed (subst (λ n. Refuses n e) c.module-module.ensures.value c.in_err-compute.ensures) keeps in
    memory_alone c.from_residual.result e c.from_residual.ensures.1 memory

pub returns-in_err-check_shapes-clause-decided : goal.returns-in_err-check_shapes-clause-decided
returns-in_err-check_shapes-clause-decided c =
    let m = c.args.valid.now in
    let e = c.in_err-check_shapes.field-0.0 in
    handed_on c.from_residual-in_err-check_shapes.result e _ (Refuses m) c.from_residual-in_err-check_shapes.ensures.1 (subst (λ n. Refuses n e) c.module-module.ensures.value c.in_err-check_shapes.ensures)

pub returns-in_err-check_shapes-clause-refused : goal.returns-in_err-check_shapes-clause-refused
returns-in_err-check_shapes-clause-refused c keeps =
    let m = c.args.valid.now in
    let e = c.in_err-check_shapes.field-0.0 in
    let typed : IsTyped m = c.module-module.ensures.typed in
    let memory : e ≡ fault.OutOfMemory = only_memory m e typed (subst (λ n. Refuses n e) c.module-module.ensures.value c.in_err-check_shapes.ensures) keeps in
    memory_alone c.from_residual-in_err-check_shapes.result e c.from_residual-in_err-check_shapes.ensures.1 memory

pub returns-in_err-check_memory-clause-decided : goal.returns-in_err-check_memory-clause-decided
returns-in_err-check_memory-clause-decided c =
    let m = c.args.valid.now in
    let e = c.in_err-check_memory.field-0.0 in
    handed_on c.from_residual-in_err-check_memory.result e _ (Refuses m) c.from_residual-in_err-check_memory.ensures.1 c.in_err-check_memory.ensures

pub returns-in_err-check_memory-clause-refused : goal.returns-in_err-check_memory-clause-refused
returns-in_err-check_memory-clause-refused c keeps =
    let m = c.args.valid.now in
    let e = c.in_err-check_memory.field-0.0 in
    let typed : IsTyped m = c.module-module.ensures.typed in
    let memory : e ≡ fault.OutOfMemory = only_memory m e typed c.in_err-check_memory.ensures keeps in
    memory_alone c.from_residual-in_err-check_memory.result e c.from_residual-in_err-check_memory.ensures.1 memory

pub returns-in_err-check_known-clause-decided : goal.returns-in_err-check_known-clause-decided
returns-in_err-check_known-clause-decided c =
    let m = c.args.valid.now in
    let e = c.in_err-check_known.field-0.0 in
    handed_on c.from_residual-in_err-check_known.result e _ (Refuses m) c.from_residual-in_err-check_known.ensures.1 (refused_rule m P11 e (ConstantsKnown asks_divisors m) (λ k. k) c.in_err-check_known.ensures)

pub returns-in_err-check_known-clause-refused : goal.returns-in_err-check_known-clause-refused
returns-in_err-check_known-clause-refused c keeps =
    let m = c.args.valid.now in
    let e = c.in_err-check_known.field-0.0 in
    let typed : IsTyped m = c.module-module.ensures.typed in
    let refused : Refuses m e = refused_rule m P11 e (ConstantsKnown asks_divisors m) (λ k. k) c.in_err-check_known.ensures in
    let memory : e ≡ fault.OutOfMemory = only_memory m e typed refused keeps in
    memory_alone c.from_residual-in_err-check_known.result e c.from_residual-in_err-check_known.ensures.1 memory

pub returns-in_err-facts-clause-decided : goal.returns-in_err-facts-clause-decided
returns-in_err-facts-clause-decided c =
    let m = c.args.valid.now in
    let e = c.in_err-facts.field-0.0 in
    handed_on c.from_residual-in_err-facts.result e _ (Refuses m) c.from_residual-in_err-facts.ensures.1 c.in_err-facts.ensures

pub returns-in_err-facts-clause-refused : goal.returns-in_err-facts-clause-refused
returns-in_err-facts-clause-refused c keeps =
    let m = c.args.valid.now in
    let e = c.in_err-facts.field-0.0 in
    let typed : IsTyped m = c.module-module.ensures.typed in
    let memory : e ≡ fault.OutOfMemory = only_memory m e typed c.in_err-facts.ensures keeps in
    memory_alone c.from_residual-in_err-facts.result e c.from_residual-in_err-facts.ensures.1 memory

pub returns-in_err-check_known-2-clause-decided : goal.returns-in_err-check_known-2-clause-decided
returns-in_err-check_known-2-clause-decided c =
    let m = c.args.valid.now in
    let e = c.in_err-check_known-2.field-0.0 in
    let typed : IsTyped m = c.module-module.ensures.typed in
    let shapes : ShapesHold m = subst ShapesHold c.module-module.ensures.value c.in_ok-check_shapes.ensures in
    let known : ConstantsKnown asks_all m = together m typed.bodies shapes.reached shapes.ordered c.in_ok-check_memory.ensures.1 c.in_ok-check_known.ensures c.in_ok-facts.ensures.1 in
    let refused : Refuses m e = refused_rule m P10 e (ConstantsKnown asks_all m) (λ _. known) c.in_err-check_known-2.ensures in
    handed_on c.from_residual-in_err-check_known-2.result e _ (Refuses m) c.from_residual-in_err-check_known-2.ensures.1 refused

pub returns-in_err-check_known-2-clause-refused : goal.returns-in_err-check_known-2-clause-refused
returns-in_err-check_known-2-clause-refused c keeps =
    let m = c.args.valid.now in
    let e = c.in_err-check_known-2.field-0.0 in
    let typed : IsTyped m = c.module-module.ensures.typed in
    let refused : Refuses m e = refused_rule m P10 e (ConstantsKnown asks_all m) (λ _. keeps.constants) c.in_err-check_known-2.ensures in
    let memory : e ≡ fault.OutOfMemory = only_memory m e typed refused keeps in
    memory_alone c.from_residual-in_err-check_known-2.result e c.from_residual-in_err-check_known-2.ensures.1 memory

pub returns-clause-decided : goal.returns-clause-decided
returns-clause-decided c =
    let m = c.args.valid.now in
    let n = c.in_ok-compute.compute in
    let parts : PartsHold m × IsComputeNumber m n = subst (λ k. PartsHold k × IsComputeNumber k n) c.module-module.ensures.value c.in_ok-compute.ensures in
    let shapes : ShapesHold m = subst ShapesHold c.module-module.ensures.value c.in_ok-check_shapes.ensures in
    let calls = c.in_ok-facts.ensures.0 in
    (bounded m n parts.0 parts.1 shapes c.in_ok-check_memory.ensures.0 calls.0 c.in_ok-check_known-2.ensures, facts_hold m n c.in_ok-facts.facts parts.1 calls.1)

pub check_memory-requires : goal.check_memory-requires
check_memory-requires c =
    let shapes : ShapesHold c.args.valid.now = subst ShapesHold c.module-module.ensures.value c.in_ok-check_shapes.ensures in
    record { reached = shapes.reached; ordered = shapes.ordered }

pub check_known-requires : goal.check_known-requires
check_known-requires c =
    let shapes : ShapesHold c.args.valid.now = subst ShapesHold c.module-module.ensures.value c.in_ok-check_shapes.ensures in
    record { reached = shapes.reached; ordered = shapes.ordered }

pub check_known-requires-2 : goal.check_known-requires-2
check_known-requires-2 c =
    let shapes : ShapesHold c.args.valid.now = subst ShapesHold c.module-module.ensures.value c.in_ok-check_shapes.ensures in
    record { reached = shapes.reached; ordered = shapes.ordered }

pub check_calls-requires : goal.check_calls-requires
check_calls-requires c =
    let m = c.args.valid.now in
    let n = c.in_ok-compute.compute in
    let parts : PartsHold m × IsComputeNumber m n = subst (λ k. PartsHold k × IsComputeNumber k n) c.module-module.ensures.value c.in_ok-compute.ensures in
    let shapes : ShapesHold m = subst ShapesHold c.module-module.ensures.value c.in_ok-check_shapes.ensures in
    record { number = parts.1; reached = shapes.reached; ordered = shapes.ordered }
