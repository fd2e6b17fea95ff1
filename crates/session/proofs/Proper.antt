-- Each job of a session that began with nothing is of a verified module.
use Rattle.std.proofs.Common.{inl, inr, ◌≡◌, ◌∙◌, ℕ, List, [], ◌∷◌, Option, None, Some, ap, cond, subst, sym}
use Rattle.std.specs.Str.{bytes_eq}
use Rattle.std.proofs.lemmas.Bool.{cases_Bool}
use Rattle.wasm_ast.specs.declared.module.Module.{Module}
use Rattle.sources.specs.Disk.{Disk}
use Rattle.sources.specs.Modules.{IsVerified}
use Rattle.superstep.specs.Job.{Work}
use Rattle.session.specs.declared.command.Kind.{Kind}
use Rattle.session.specs.declared.command.Kind.TheVariants as kind
use Rattle.session.specs.declared.held_job.HeldJob.{HeldJob}
use Rattle.session.specs.Commands.{Asked, add_module, add_graph, add_job, run, status, values, drop, quit, unknown}
use Rattle.session.specs.Maps.{Maps, nothing, put, with_job, with_module}
use Rattle.session.specs.Runs.{Runs}
use Rattle.session.specs.Transcript.{IsReplyTo, Reaches, without}

pub record IsProper (maps : Maps) : Type 0 where
  pub modules : (name : List ℕ) (m : Module) → maps.modules name ≡ Some m → IsVerified m
  pub jobs : (name : List ℕ) (held : HeldJob) → maps.jobs name ≡ Some held → IsVerified held.job.«module»

some_same : {X : Type 0} (x y : X) → Some x ≡ Some y → x ≡ y
some_same x y e = cc

none_some : {X : Type 0} (x : X) → ◌≡◌ {A = Option X} None (Some x) → ⊥
none_some x e = cc

-- what is found at a name after a change at one
put_keeps : {X : Type 0} (P : X → Type 0) (name : List ℕ) (found : Option X) (map : List ℕ → Option X) → ((x : X) → found ≡ Some x → P x)
    → ((other : List ℕ) (x : X) → map other ≡ Some x → P x) → (other : List ℕ) (x : X) → put name found map other ≡ Some x → P x
put_keeps P name found map new old other x is = elim (cases_Bool (bytes_eq name other)) [
  | inl same ↦ new x (sym (ap (λ b. cond b found (map other)) same) ∙ is)
  | inr differs ↦ old other x (sym (ap (λ b. cond b found (map other)) differs) ∙ is)
]

abbrev IsVerifiedJob : HeldJob → Type 0
IsVerifiedJob held = IsVerified held.job.«module»

none_keeps : {X : Type 0} (P : X → Type 0) (x : X) → ◌≡◌ {A = Option X} None (Some x) → P x
none_keeps P x e = absurd (none_some x e)

some_keeps : {X : Type 0} (P : X → Type 0) (x : X) → P x → (y : X) → Some x ≡ Some y → P y
some_keeps P x holds y e = subst P (some_same x y e) holds

module_put : (maps : Maps) (name : List ℕ) (found : Option Module) → IsProper maps → ((m : Module) → found ≡ Some m → IsVerified m)
    → IsProper (with_module name found maps)
module_put maps name found proper new = record { modules = put_keeps IsVerified name found maps.modules new proper.modules; jobs = proper.jobs }

job_put : (maps : Maps) (name : List ℕ) (found : Option HeldJob) → IsProper maps → ((held : HeldJob) → found ≡ Some held → IsVerifiedJob held)
    → IsProper (with_job name found maps)
job_put maps name found proper new = record { modules = proper.modules; jobs = put_keeps IsVerifiedJob name found maps.jobs new proper.jobs }

same_job : (held next : HeldJob) → next.job ≡ held.job → IsVerifiedJob held → IsVerifiedJob next
same_job held next same verified = subst (λ (work : Work). IsVerified work.«module») (sym same) verified

dropped : (kind : Kind) (name : List ℕ) (maps : Maps) → IsProper maps → IsProper (without kind name maps)
dropped kind.Module name maps proper = module_put maps name None proper (none_keeps IsVerified)
dropped kind.Graph name maps proper = record { modules = proper.modules; jobs = proper.jobs }
dropped kind.Job name maps proper = job_put maps name None proper (none_keeps IsVerifiedJob)

answers_proper : (disk : Disk) (runs : Runs) (maps : Maps) (reply : List ℕ) (after : Maps) → IsProper maps → (asked : Asked)
    → IsReplyTo disk runs maps asked reply after → IsProper after
answers_proper disk runs maps reply after proper (add_module name path) (inl adds) =
    subst IsProper (sym adds.added) (module_put maps name (Some adds.m) proper (some_keeps IsVerified adds.m adds.loaded.2.verified))
answers_proper disk runs maps reply after proper (add_module name path) (inr refused) = subst IsProper (sym refused.0) proper
answers_proper disk runs maps reply after proper (add_graph name path) (inl adds) =
    subst IsProper (sym adds.added) (record { modules = proper.modules; jobs = proper.jobs })
answers_proper disk runs maps reply after proper (add_graph name path) (inr refused) = subst IsProper (sym refused.0) proper
answers_proper disk runs maps reply after proper (add_job name module_name graph_name settings) (inl adds) =
    subst IsProper (sym adds.added) (job_put maps name (Some adds.held) proper (some_keeps IsVerifiedJob adds.held
    (subst IsVerified (sym adds.is_job.calls) (proper.modules module_name adds.m adds.has_module))))
answers_proper disk runs maps reply after proper (add_job name module_name graph_name settings) (inr refused) = subst IsProper (sym refused.0) proper
answers_proper disk runs maps reply after proper (run name) (inl (inl ends)) =
    subst IsProper (sym ends.kept) (job_put maps name (Some ends.next) proper (some_keeps IsVerifiedJob ends.next
    (same_job ends.held ends.next ends.same (proper.jobs name ends.held ends.is_held))))
answers_proper disk runs maps reply after proper (run name) (inl (inr fails)) =
    subst IsProper (sym fails.kept) (job_put maps name (Some fails.next) proper (some_keeps IsVerifiedJob fails.next
    (same_job fails.held fails.next fails.same (proper.jobs name fails.held fails.is_held))))
answers_proper disk runs maps reply after proper (run name) (inr refused) = subst IsProper (sym refused.0) proper
answers_proper disk runs maps reply after proper (status name) answers = subst IsProper (sym answers.0) proper
answers_proper disk runs maps reply after proper (values name) answers = subst IsProper (sym answers.0) proper
answers_proper disk runs maps reply after proper (drop kind name) (inl drops) = subst IsProper (sym drops.dropped) (dropped kind name maps proper)
answers_proper disk runs maps reply after proper (drop kind name) (inr refused) = subst IsProper (sym refused.0) proper
answers_proper disk runs maps reply after proper quit answers = subst IsProper (sym answers.0) proper
answers_proper disk runs maps reply after proper unknown answers = subst IsProper (sym answers.0) proper

-- what is reached from what is proper
reaches_proper : (disk : Disk) (runs : Runs) (asked : List Asked) (maps : Maps) (told : List ℕ) (now : Maps) → IsProper maps
    → Reaches disk runs maps asked told now → IsProper now
reaches_proper disk runs [] maps told now proper reaches = subst IsProper (sym reaches.1) proper
reaches_proper disk runs (first ∷ asked) maps told now proper begins =
    reaches_proper disk runs asked begins.after begins.rest now (answers_proper disk runs maps begins.reply begins.after proper first begins.answers)
    begins.goes.1

pub proper_from_nothing : (disk : Disk) (runs : Runs) (asked : List Asked) (told : List ℕ) (now : Maps) → Reaches disk runs nothing asked told now → IsProper now
proper_from_nothing disk runs asked told now =
    reaches_proper disk runs asked nothing told now
    (record { modules = λ name. none_keeps IsVerified; jobs = λ name. none_keeps IsVerifiedJob })
