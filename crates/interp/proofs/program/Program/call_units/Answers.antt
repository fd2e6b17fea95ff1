use Rattle.std.proofs.Common.{ap, ◌∙◌}
use Rattle.verified.specs.Weights.{host_units}
use Rattle.interp.proofs.Weighing.{call_counts}
use Rattle.interp.proofs.program.Program.call_units.Goals as goal

pub returns : goal.returns
returns c =
    c.host_units.ensures ∙ ap host_units c.host_call.ensures ∙ call_counts c.args.self.module.now c.args.self.calls.now c.requires c.args.number
