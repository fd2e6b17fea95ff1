-- A call sees no more of its input than what the text means.
use Rattle.std.proofs.Common.{◌≡◌, ℕ, List, [], ap, ◌∙◌, map}
use Rattle.wasm_ast.specs.declared.module.Module.{Module}
use Rattle.wasm_ast.specs.Values.{zero_of}
use Rattle.verified.specs.declared.call.CallInput.{CallInput}
use Rattle.verified.specs.declared.call.CallOutcome.{CallOutcome}
use Rattle.verified.specs.Host.{Host, host_of}
use Rattle.semantics.specs.Machine.{Machine, Running}
use Rattle.semantics.specs.Start.{Starts}
use Rattle.semantics.specs.Call.{IsOutcome, SameOutcome}
use Rattle.call_lines.specs.OutputLines.{outcome_lines}
use Rattle.call_lines.specs.Input.{Means, SameInput}
use Rattle.call_lines.proofs.Meanings.{same_input}

same_host : (a b : CallInput) → SameInput a b → host_of a ≡ host_of b
same_host a b same =
    let e1 = same.id in
    let e2 = same.superstep in
    let e3 = same.count in
    let e4 = same.value in
    let e5 = same.messages in
    let e6 = same.edges in
    let e7 = same.aggregated in
    cc

starts_along : (m : Module) (a b : CallInput) (first : Machine) → SameInput a b → Starts m a first → Starts m b first
starts_along m a b first same starts = record {
  function = starts.function;
  globals = starts.globals;
  bytes = starts.bytes;
  begins = starts.begins;
  is = starts.is ∙ ap (λ (host : Host). Running [] starts.function.body [] (record {
    locals = map zero_of starts.function.locals;
    globals = starts.globals;
    memory = starts.bytes;
    host = host;
    count = 0;
  })) (same_host a b same);
}

pub outcome_of_meaning : (m : Module) (text : List ℕ) (a b : CallInput) (outcome : CallOutcome) → Means text a → Means text b
    → IsOutcome m a outcome → IsOutcome m b outcome
outcome_of_meaning m text a b outcome first second ends = record {
  first = ends.first;
  starts = starts_along m a b ends.first (same_input text a b first second) ends.starts;
  steps = ends.steps;
  final = ends.final;
  done = ends.done;
  least = ends.least;
  leaves = ends.leaves;
}

-- one outcome, one text of it
pub same_lines : (a b : CallOutcome) → SameOutcome a b → outcome_lines a ≡ outcome_lines b
same_lines a b same =
    let e1 = same.value in
    let e2 = same.sends in
    let e3 = same.contributions in
    let e4 = same.halted in
    let e5 = same.units in
    cc
