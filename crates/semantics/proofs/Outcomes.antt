-- What the calls of a module come to is one function of what they are given.
use Rattle.std.proofs.Common.{◌≡◌, ◌≢◌, ℕ, zero, suc, ◌<◌, ◌⊎◌, inl, inr, refl, subst, arith}
use Rattle.wasm_ast.specs.declared.module.Module.{Module}
use Rattle.verified.specs.declared.call.CallInput.{CallInput}
use Rattle.verified.specs.declared.call.CallOutcome.{CallOutcome}
use Rattle.verified.specs.Host.{Host, host_of}
use Rattle.verified.specs.Modules.{IsTyped}
use Rattle.verified.specs.Profile.{IsBounded}
use Rattle.semantics.specs.Call.{ComesTo, IsOutcome, Outcome, outcome_of, shown}
use Rattle.semantics.specs.Configuration.{State}
use Rattle.semantics.specs.Machine.{Machine, Running, Done, Trapped, Stuck, advance, run}
use Rattle.semantics.specs.Outcomes.{AreOutcomes, Given, HasOneOutcome, given_of, vertex_of}
use Rattle.semantics.proofs.OneEnd.{one_outcome}
use Rattle.semantics.proofs.Told.{always_ends}

-- an input that shows this
input_of : Given → CallInput
input_of given = record {
  id = given.id;
  superstep = given.superstep;
  count = given.count;
  value = given.value;
  messages = record { ref_ptr = (0, 0); now = given.messages };
  edges = record { ref_ptr = (0, 0); now = given.edges };
  aggregated = given.aggregated;
}

same_vertex : (given : Given) → host_of (input_of given) ≡ vertex_of given
unfolding input_of
same_vertex given = refl

-- ---- the least number of steps

not_done : (x : Machine) → ((st : State) → x ≢ Done st) ⊎ ((st : State) × (x ≡ Done st))
not_done (Running vs is ls st) = inl (λ s e. absurd cc)
not_done (Done st) = inr (st, refl)
not_done (Trapped count) = inl (λ s e. absurd cc)
not_done (Stuck count) = inl (λ s e. absurd cc)

-- where a run is done first
pub record DoneFirst (m : Module) (x : Machine) : Type 0 where
  pub steps : ℕ
  pub final : State
  pub done : run m steps x ≡ Done final
  pub least : (n : ℕ) → n < steps → (st : State) → run m n x ≢ Done st

later : (m : Module) (x : Machine) → ((st : State) → x ≢ Done st) → DoneFirst m (advance m x) → DoneFirst m x
later m x none d = record { steps = suc d.steps; final = d.final; done = d.done; least = before }
  where
    before : (n : ℕ) → n < suc d.steps → (st : State) → run m n x ≢ Done st
    before zero h st e = none st e
    before (suc n) h st e = d.least n (omega (arith, h)) st e

pub first : (m : Module) (steps : ℕ) (x : Machine) (final : State) → run m steps x ≡ Done final → DoneFirst m x
first m zero x final e = record { steps = zero; final = final; done = e; least = λ n h st g. absurd (omega (arith, h)) }
first m (suc k) x final e = elim (not_done x) [
  | inl none ↦ later m x none (first m k (advance m x) final e)
  | inr d ↦ record { steps = zero; final = d.0; done = d.1; least = λ n h st g. absurd (omega (arith, h)) }
]

-- ---- the function

module _ (m : Module) (typed : IsTyped m) (bounded : IsBounded m) where
  call_of : (given : Given) → (outcome : Outcome) × ComesTo m (vertex_of given) outcome
  call_of given =
      let e = (always_ends m typed bounded (input_of given)).3 in
      let d = first m e.steps e.first e.final e.done in
      let comes : ComesTo m (host_of (input_of given)) (outcome_of d.final) = record { first = e.first; starts = e.starts; steps = d.steps; final = d.final; done = d.done; least = d.least; leaves = refl } in
      (outcome_of d.final, subst (λ (h : Host). ComesTo m h (outcome_of d.final)) (same_vertex given) comes)

  pub has_one_outcome : HasOneOutcome m
  has_one_outcome = record {
    outcomes = λ given. (call_of given).0;
    are = λ given. (call_of given).1;
    only = λ others are given. one_outcome m (vertex_of given) (others given) (call_of given).0 (are given) (call_of given).1;
  }

-- what a call answers is what the function says
pub told : (m : Module) (outcomes : Given → Outcome) → AreOutcomes m outcomes → (input : CallInput) (outcome : CallOutcome) → IsOutcome m input outcome → shown outcome ≡ outcomes (given_of input)
told m outcomes are input outcome is = one_outcome m (host_of input) (shown outcome) (outcomes (given_of input)) is (are (given_of input))
