use Rattle.std.proofs.Common.{w32}
use Rattle.semantics.proofs.Divisions.{quotient_stands}
use Rattle.semantics.proofs.i32.i32_div_s.Goals as goal

pub nonzero_div-cast_signed : goal.nonzero_div-cast_signed
nonzero_div-cast_signed c =
    simp (c.cast_signed.ensures, c.cast_signed-2.ensures) (quotient_stands w32 c.args.x c.args.y c.ranges.x c.ranges.y c.requires)
