-- The call of a vertex, and a vertex that is not called.
use Rattle.std.proofs.Common.{◌≡◌, ◌⊎◌, inl, inr, ℕ, ℤ, ◌<◌, ◌≤◌, Bool, true, false, not, List, [], ◌∷◌, length, refl, ap, ◌∙◌, arith}
use Rattle.std.proofs.Math.Bool.{or-true}
use Rattle.std.proofs.lemmas.Bool.{lt-ltb}
use Rattle.std.proofs.lemmas.List.Elements.{All-weaker, recursion_from_All}
use Rattle.std.specs.List.{All, AllByRecursion}
use Rattle.verified.specs.declared.call.CallInput.{CallInput}
use Rattle.verified.specs.declared.call.CallOutcome.{CallOutcome}
use Rattle.wasm_ast.specs.declared.module.Module.{Module}
use Rattle.semantics.specs.Bounded.{max_id}
use Rattle.semantics.specs.Call.{IsOutcome, Outcome, shown}
use Rattle.semantics.specs.Outcomes.{Given}
use Rattle.graph.specs.Entry.{Entry, is_in_range}
use Rattle.job_state.specs.declared.state.VertexState.{VertexState}
use Rattle.superstep.specs.declared.task.Shared.{Shared}
use Rattle.superstep.specs.Snapshot.{Row, is_called}
use Rattle.superstep.specs.Superstep.{idle}
use Rattle.superstep.specs.Tasks.{emptied}
use Rattle.superstep.specs.inside.Called.{Tells, given_in, left_in, row_of}

pub called_true : (row : Row) → (row.active ≡ true) ⊎ (0 < length row.inbox) → is_called row ≡ true
called_true row (inl active) = rw active refl
called_true row (inr some) = rw (lt-ltb 0 (length row.inbox) some) (or-true row.active)

pub called_false : (row : Row) → row.active ≡ false → length row.inbox ≡ 0 → is_called row ≡ false
called_false row halted empty = rw (halted, empty) refl

none : {X : Type 0} (xs : List X) → length xs ≡ 0 → xs ≡ []
none [] e = refl
none (x ∷ xs) e = absurd (omega arith)

state : ℕ → ℤ → Bool → List ℤ → VertexState
state id value active inbox = record { id = id; value = value; active = active; inbox = inbox }

-- a vertex that is not called leaves what `idle` says, and stays as it is
pub idle_told : (outcomes : Given → Outcome) (shared : Shared) (row : Row) → row.active ≡ false → length row.inbox ≡ 0 → idle row ≡ left_in outcomes shared row
idle_told outcomes shared row halted empty = rw (called_false row halted empty) refl

pub idle_stays : (entry : Entry) (vertex : VertexState) → vertex.active ≡ false → length vertex.inbox ≡ 0
    → vertex ≡ emptied (vertex.id, idle (row_of entry vertex))
unfolding state
idle_stays entry vertex halted empty =
    ap (λ active. state vertex.id vertex.value active vertex.inbox) halted ∙ ap (λ inbox. state vertex.id vertex.value false inbox) (none vertex.inbox empty)

-- the vertex after its call
pub call_keeps : (id : ℕ) (value : ℤ) (inbox : List ℤ) (outcome : Outcome) → value ≡ outcome.value → inbox ≡ []
    → ◌≡◌ {A = VertexState} (record { id = id; value = value; active = not outcome.halted; inbox = inbox }) (emptied (id, outcome))
unfolding state
call_keeps id value inbox outcome same empty =
    ap (λ v. state id v (not outcome.halted) inbox) same ∙ ap (λ xs. state id outcome.value (not outcome.halted) xs) empty

given : Shared → Row → ℤ → List ℤ → List (ℕ × ℤ) → Given
given shared row value messages edges = given_in shared (record { id = row.id; value = value; edges = edges; active = row.active; inbox = messages })

-- what the input shows
pub record ShowsRow (shared : Shared) (row : Row) (input : CallInput) : Type 0 where
  pub id : input.id ≡ row.id
  pub superstep : input.superstep ≡ shared.superstep
  pub count : input.count ≡ shared.count
  pub value : input.value ≡ row.value
  pub messages : input.messages.now ≡ row.inbox
  pub edges : input.edges.now ≡ row.edges
  pub aggregated : input.aggregated ≡ shared.aggregated

-- what a call leaves is what the function says
pub call_told : (m : Module) (outcomes : Given → Outcome) (shared : Shared) (row : Row) (input : CallInput) (outcome : CallOutcome) → Tells m outcomes
    → IsOutcome m input outcome → ShowsRow shared row input → is_called row ≡ true → shown outcome ≡ left_in outcomes shared row
call_told m outcomes shared row input outcome tells is shows called =
    rw called (tells input outcome is ∙ ap outcomes (rw (shows.id, shows.superstep, shows.count, shows.value, shows.messages, shows.edges, shows.aggregated) refl))

small : (edges : List (ℕ × ℤ)) → All (λ edge. is_in_range edge.0) edges → AllByRecursion (λ (edge : ℕ × ℤ). edge.0 ≤ max_id) edges
small edges all =
    recursion_from_All (λ (edge : ℕ × ℤ). edge.0 ≤ max_id) edges
    (All-weaker (λ (edge : ℕ × ℤ). is_in_range edge.0) (λ (edge : ℕ × ℤ). edge.0 ≤ max_id) (λ edge h. omega arith) edges all)

pub targets_small : (edges seen : List (ℕ × ℤ)) → seen ≡ edges → All (λ edge. is_in_range edge.0) edges → AllByRecursion (λ (edge : ℕ × ℤ). edge.0 ≤ max_id) seen
targets_small edges seen same all = rw same (small edges all)
