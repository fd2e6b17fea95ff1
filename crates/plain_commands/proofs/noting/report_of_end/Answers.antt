use Rattle.std.proofs.Common.{◌∙◌, ap, map, refl, subst}
use Rattle.wasm_ast.specs.declared.module.Module.{Module}
use Rattle.verified.specs.Facts.{IsSizeOfCompute}
use Rattle.run_report.specs.Tally.{capped}
use Rattle.plain_commands.specs.Notes.{settings_in}
use Rattle.plain_commands.proofs.noting.report_of_end.Goals as goal

pub returns-clause-of_job : goal.returns-clause-of_job
returns-clause-of_job c = record {
  settings = c.settings_of.ensures ∙ ap settings_in c.settings.ensures.settings;
  size = rw c.from.ensures (subst (λ (m : Module). IsSizeOfCompute m c.size.result) c.verified.ensures c.size.ensures);
  vertices = rw c.from-2.ensures c.count.ensures;
  edges = c.edge_count.ensures;
}

pub returns-clause-of_end : goal.returns-clause-of_end
returns-clause-of_end c =
    let ended = c.args.report.now.ended in record {
      outcome = c.outcome_of_end.ensures;
      spent = c.in_ok-spent.ensures ∙ ap (map capped) c.deref-2.ensures.value;
      tally = c.args.tally.now;
      ended = record { superstep = ended.superstep; since = ended.since; units = c.deref.result; dropped = ended.dropped };
      is_ended = record { superstep = refl; since = refl; units = c.deref.ensures.value; dropped = refl };
      supersteps = c.in_ok-supersteps.ensures.counts;
    }
