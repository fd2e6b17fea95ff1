use Rattle.semantics.proofs.Whole.{calls_end}
use Rattle.semantics.proofs.Fixed.{depths_there, sizes_there, heights_there}
use Rattle.semantics.proofs.Told.{facts_hold, always_ends}
use Rattle.semantics.proofs.Faults.{no_fault}
use Rattle.semantics.proofs.laws.calls_end.Goals as goal

pub returns : goal.returns
returns c = record {
  ends = calls_end;
  facts = facts_hold;
  always = always_ends;
  faults = no_fault;
  bounds = λ m b. record { sizes = sizes_there m b.acyclic; heights = heights_there m b.acyclic; depths = depths_there m b.acyclic };
}
