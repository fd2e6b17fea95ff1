use Rattle.std.proofs.Common.{◌++◌, ap, ◌∙◌}
use Rattle.std.specs.List.{fold}
use Rattle.inbox.specs.Merging.{letters_sent}
use Rattle.superstep.specs.Folds.{give}
use Rattle.compute.proofs.PartCalls.{units_added}
use Rattle.compute.proofs.part_output.PartOutput.add.Goals as goal

pub returns : goal.returns
returns c = record {
  letters = c.in_ok-send_all.ensures.ok ∙ ap (λ sends. c.args.self.now.letters ++ letters_sent c.args.id sends) c.deref.ensures.value;
  aggregators = c.give_all.ensures ∙ ap (λ given. fold give c.args.self.now.aggregators given) c.deref-2.ensures.value;
  units = λ total was. units_added c.args.self.now.units c.saturating_add-self.result total c.args.outcome.now.units was c.saturating_add-self.ensures;
}
