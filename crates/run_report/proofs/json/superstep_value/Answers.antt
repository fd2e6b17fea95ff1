use Rattle.run_report.proofs.json.superstep_value.Goals as goal

pub returns : goal.returns
returns c = c.object_of.ensures
