use Rattle.std.proofs.Common.{[], ◌∙◌}
use Rattle.bounded_profile.specs.inside.Footprint.{trail}
use Rattle.bounded_profile.proofs.ReachedFootprint.{along}
use Rattle.bounded_profile.proofs.footprint.mark_body.Goals as goal

pub returns : goal.returns
returns c =
    c.in_ok-mark_code.ensures ∙ along c.args.arities.now c.args.body.now (trail [] c.args.marks.now)
