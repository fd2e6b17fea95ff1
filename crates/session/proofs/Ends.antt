-- A job ends once.
use Rattle.std.proofs.Common.{inl, inr, ◌≡◌, ◌∙◌, ℕ, ℤ, ◌<◌, Bool, List, ◌++◌, codes, Some, ap, sym, subst, arith}
use Rattle.std.proofs.lemmas.Bool.{cases_lt}
use Rattle.wasm_ast.specs.declared.module.Module.{Module}
use Rattle.semantics.specs.Call.{Outcome}
use Rattle.semantics.specs.Outcomes.{AreOutcomes, Given}
use Rattle.graph.specs.Entry.{Entry}
use Rattle.superstep.specs.declared.ending.JobEnd.{JobEnd}
use Rattle.job_state.specs.declared.settings.Settings.{Settings}
use Rattle.superstep.specs.Ending.{IsEndOf, answer_of}
use Rattle.superstep.specs.Job.{Meaning, Work}
use Rattle.superstep.specs.PlainRun.{Answer, IsAnswer, IsEnd, state_at}
use Rattle.superstep.specs.Snapshot.{values_of}
use Rattle.graph.specs.Print.{value_lines}
use Rattle.call_lines.specs.OutputLines.{line}
use Rattle.sources.specs.Jobs.{IsJobOf}
use Rattle.session.specs.Maps.{Maps}
use Rattle.session.specs.declared.held_job.HeldJob.{HeldJob}
use Rattle.session.specs.Replies.{values_text}
use Rattle.session.specs.Transcript.{ReportsValues}

-- no job ends at one superstep and at a later one
not_later : (outcomes : Given → Outcome) (graph : List Entry) (limit : ℕ) (f g : Bool) (s t : ℕ) → IsEnd outcomes graph limit f s → IsEnd outcomes graph limit g t
    → s < t → ⊥
not_later outcomes graph limit f g s t first second early =
    let last : s ≡ limit = first.last (sym first.quiet ∙ second.busy s early) in
    let within = second.within in
    omega arith

ends_once : (outcomes : Given → Outcome) (graph : List Entry) (limit : ℕ) (f g : Bool) (s t : ℕ) → IsEnd outcomes graph limit f s → IsEnd outcomes graph limit g t
    → s ≡ t
ends_once outcomes graph limit f g s t first second = elim (cases_lt s t) [
  | inl early ↦ absurd (not_later outcomes graph limit f g s t first second early)
  | inr late ↦ elim (cases_lt t s) [
    | inl early ↦ absurd (not_later outcomes graph limit g f t s second first early)
    | inr same ↦ omega arith
  ]
]

values_once : (outcomes : Given → Outcome) (graph : List Entry) (limit : ℕ) (a b : Answer) → IsAnswer outcomes graph limit a → IsAnswer outcomes graph limit b
    → a.values ≡ b.values
values_once outcomes graph limit a b first second =
    first.values
    ∙ ap (λ s. values_of (state_at outcomes graph s)) (ends_once outcomes graph limit a.finished b.finished a.superstep b.superstep first.ends second.ends)
    ∙ sym second.values

-- what a job means, by what its module's calls come to
abbrev meaning_of : (m : Module) (graph : List Entry) (settings : Settings) (work : Work) → IsJobOf m graph settings work → (outcomes : Given → Outcome)
    → AreOutcomes m outcomes → Meaning work
meaning_of m graph settings work is outcomes are =
    record { graph = graph; is_graph = is.over; outcomes = outcomes; are = subst (λ n. AreOutcomes n outcomes) (sym is.calls) are }

ended_values : (m : Module) (graph : List Entry) (settings : Settings) (work : Work) (is : IsJobOf m graph settings work) (outcomes : Given → Outcome)
    (are : AreOutcomes m outcomes) (ended : JobEnd) → IsEndOf work ended → IsAnswer outcomes graph settings.limit (answer_of ended)
ended_values m graph settings work is outcomes are ended ends =
    subst (λ (s : Settings). IsAnswer outcomes graph s.limit (answer_of ended)) is.how (ends (meaning_of m graph settings work is outcomes are)).answer

some_same : {X : Type 0} (x y : X) → Some x ≡ Some y → x ≡ y
some_same x y e = cc

-- the job that has a name
pub held_is : (maps : Maps) (name told : List ℕ) (held : HeldJob) → maps.jobs name ≡ Some held → (tells : ReportsValues maps name told) → tells.held ≡ held
held_is maps name told held is tells = some_same tells.held held (sym tells.is_held ∙ is)

-- how values are told
abbrev told_of : List (ℕ × ℤ) → List ℕ
told_of values = value_lines values ++ line (codes ".")

pub same_told : (m : Module) (graph : List Entry) (settings others : Settings) (outcomes : Given → Outcome) → AreOutcomes m outcomes → settings.limit ≡ others.limit
    → (one two : Work) → IsJobOf m graph settings one → IsJobOf m graph others two → (first second : JobEnd) → IsEndOf one first → IsEndOf two second
    → values_text first ≡ values_text second
same_told m graph settings others outcomes are same one two is_one is_two first second ends_one ends_two =
    let a = ended_values m graph settings one is_one outcomes are first ends_one in
    let b : IsAnswer outcomes graph settings.limit (answer_of second) =
    subst (λ limit. IsAnswer outcomes graph limit (answer_of second)) (sym same) (ended_values m graph others two is_two outcomes are second ends_two) in
    ap told_of (values_once outcomes graph settings.limit (answer_of first) (answer_of second) a b)
