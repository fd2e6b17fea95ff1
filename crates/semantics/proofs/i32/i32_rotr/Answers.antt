use Rattle.std.proofs.Common.{◌∙◌, w32}
use Rattle.semantics.proofs.Rotations.{rotr_is}
use Rattle.semantics.proofs.i32.i32_rotr.Goals as goal

pub returns : goal.returns
returns c = c.rotate_right.ensures ∙ rotr_is w32 _ _ c.ranges.x.fits
