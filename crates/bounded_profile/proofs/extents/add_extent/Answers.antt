use Rattle.std.proofs.Common.{sym, subst}
use Rattle.bounded_profile.specs.inside.Footprint.{Adds}
use Rattle.bounded_profile.proofs.ReachedExtents.{adds}
use Rattle.bounded_profile.proofs.extents.add_extent.Goals as goal

pub returns-in_ok-push : goal.returns-in_ok-push
returns-in_ok-push c =
    subst (Adds c.args.extent c.args.extents.now.items) (sym c.in_ok-push.ensures.items) (adds c.args.extents.now.items c.args.extent c.requires.behind c.requires.ends)
