-- A compute call: the least number of steps after which it is done, and its outcome.
use Rattle.std.specs.Prelude.{◌≡◌, ◌≢◌, ℕ, ℤ, ◌<◌, Bool, List}
use Rattle.wasm_ast.specs.declared.module.Module.{Module}
use Rattle.verified.specs.declared.call.CallInput.{CallInput}
use Rattle.verified.specs.declared.call.CallOutcome.{CallOutcome}
use Rattle.verified.specs.Host.{Host, host_of}
use Rattle.semantics.specs.Configuration.{State}
use Rattle.semantics.specs.Machine.{Machine, Done, Trapped, Stuck, run}
use Rattle.semantics.specs.Start.{Starts, StartsFrom}

-- The outcome of a call, as pure data.
pub record Outcome : Type 0 where
  pub value : ℤ
  -- the messages that it sent, each with its target and value, and what it contributed to aggregators, each with the
  -- aggregator's number
  pub sends : List (ℤ × ℤ)
  pub contributions : List (ℕ × ℤ)
  pub halted : Bool
  -- the units that it took
  pub units : ℕ

-- the outcome of the state in which a run ends
abbrev pub outcome_of : State → Outcome
outcome_of st = record {
  value = st.host.value;
  sends = st.host.sends;
  contributions = st.host.contributions;
  halted = st.host.halted;
  units = st.count;
}

-- The call that finds the vertex like this has this outcome. There is one only where some number of steps ends the
-- run.
pub record ComesTo (m : Module) (host : Host) (outcome : Outcome) : Type 0 where
  pub first : Machine
  pub starts : StartsFrom m host first
  pub steps : ℕ
  pub final : State
  pub done : run m steps first ≡ Done final
  pub least : (n : ℕ) → n < steps → (st : State) → run m n first ≢ Done st
  pub leaves : outcome ≡ outcome_of final

-- the model of an outcome
abbrev pub shown : CallOutcome → Outcome
shown outcome = record {
  value = outcome.value;
  sends = outcome.sends.items;
  contributions = outcome.contributions.items;
  halted = outcome.halted;
  units = outcome.units;
}

-- the outcome is that of the call
abbrev pub IsOutcome : Module → CallInput → CallOutcome → Type 0
IsOutcome m input outcome = ComesTo m (host_of input) (shown outcome)

-- the call reaches an instruction that traps, with this many units, its own included
pub record IsTrapped (m : Module) (input : CallInput) (count : ℕ) : Type 0 where
  pub first : Machine
  pub starts : Starts m input first
  pub steps : ℕ
  pub trapped : run m steps first ≡ Trapped count

-- the call reaches an instruction for which there is no step, with this many units, its own included
pub record IsStuck (m : Module) (input : CallInput) (count : ℕ) : Type 0 where
  pub first : Machine
  pub starts : Starts m input first
  pub steps : ℕ
  pub stuck : run m steps first ≡ Stuck count

-- both outcomes have the same values
pub record SameOutcome (a b : CallOutcome) : Type 0 where
  pub value : a.value ≡ b.value
  pub sends : a.sends.items ≡ b.sends.items
  pub contributions : a.contributions.items ≡ b.contributions.items
  pub halted : a.halted ≡ b.halted
  pub units : a.units ≡ b.units
