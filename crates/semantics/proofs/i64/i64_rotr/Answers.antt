use Rattle.std.proofs.Common.{◌∙◌, w64}
use Rattle.std.proofs.Math.Nat.{mod-mod}
use Rattle.semantics.proofs.Rotations.{rotr_is}
use Rattle.semantics.proofs.i64.i64_rotr.Goals as goal

pub returns : goal.returns
returns c = c.rotate_right.ensures ∙ rotr_is w64 _ _ c.ranges.x.fits ∙ rw mod-mod
