use Rattle.std.proofs.Common.{inl, inr}
use Rattle.std.specs.String.{string_bytes}
use Rattle.sources.proofs.Faults.{is_fault}
use Rattle.sources.proofs.reading.read_graph.Goals as goal

pub returns-in_err-text-clause-found : goal.returns-in_err-text-clause-found
returns-in_err-text-clause-found g c = rw (is_fault _ _ c.from_residual.ensures.1) (inl c.in_err-text.ensures.found)

pub returns-in_err-graph-clause-found : goal.returns-in_err-graph-clause-found
returns-in_err-graph-clause-found g c =
    rw (is_fault _ _ c.from_residual-in_err-graph.ensures.1)
    (inr (
      string_bytes c.in_ok-text.text,
      c.in_ok-text.ensures.found,
      λ graph is. c.in_err-graph.ensures.only graph (rw c.as_str.ensures.value is.means) (rw c.as_str.ensures.value is.within),
    ))

pub returns-clause-found : goal.returns-clause-found
returns-clause-found g c = (
  string_bytes c.in_ok-text.text,
  c.in_ok-text.ensures.found,
  rw (← c.as_str.ensures.value) (record { means = c.in_ok-graph.ensures.found.0; within = c.in_ok-graph.ensures.found.1 }),
)
