use Rattle.std.proofs.Common.{length, ap, ◌∙◌, arith}
use Rattle.interp.specs.inside.Kept.{count_kept, spread}
use Rattle.semantics.specs.inside.Touched.{marks}
use Rattle.interp.proofs.memory.Memory.copy_from.Goals as goal

pub copy_from_slice-requires : goal.copy_from_slice-requires
copy_from_slice-requires c =
    omega (arith, c.requires, c.self.invariant, c.other.invariant, ap count_kept c.self.view_is, ap count_kept c.other.view_is, ap length c.as_slice-bytes.ensures.value)
