use Rattle.std.proofs.Common.{◌∙◌, w32}
use Rattle.semantics.proofs.Rotations.{rotl_is}
use Rattle.semantics.proofs.i32.i32_rotl.Goals as goal

pub returns : goal.returns
returns c = c.rotate_left.ensures ∙ rotl_is w32 _ _ c.ranges.x.fits
