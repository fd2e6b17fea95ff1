use Rattle.std.proofs.Common.{◌∙◌, ap, subst}
use Rattle.wasm_ast.specs.declared.module.Module.{Module}
use Rattle.verified.specs.Facts.{IsSizeOfCompute}
use Rattle.plain_commands.specs.Notes.{IsOutcomeOfFault, settings_in}
use Rattle.plain_commands.proofs.noting.report_of_fault.Goals as goal

pub returns-clause-of_job : goal.returns-clause-of_job
returns-clause-of_job c = record {
  settings = c.settings_of.ensures ∙ ap settings_in c.settings.ensures.settings;
  size = rw c.from.ensures (subst (λ (m : Module). IsSizeOfCompute m c.size.result) c.verified.ensures c.size.ensures);
  vertices = rw c.from-2.ensures c.count.ensures;
  edges = c.edge_count.ensures;
}

pub returns-clause-of_fault : goal.returns-clause-of_fault
returns-clause-of_fault c = record {
  outcome = subst (λ reached. IsOutcomeOfFault c.args.fault reached c.outcome_of_fault.result) c.len-reached.ensures c.outcome_of_fault.ensures;
  spent = c.new.ensures.len;
  tally = c.args.tally.now;
  supersteps = c.in_ok-supersteps.ensures.counts;
}
