use Rattle.std.proofs.Common.{rules, of_calls}
use Rattle.std.specs.Prelude.{leb}
use Rattle.std.proofs.lemmas.Fn.{always_returns_same}
use Rattle.std.proofs.lemmas.List.Sorted.{IsPartitionedBy-leb}
use Rattle.verified.specs.declared.extents.Extent.{Extent}
use Rattle.verified.proofs.ReachedExtents.{rising, parts_at}
use Rattle.verified.proofs.extents.extents_up_to.Goals as goal

pub returns : goal.returns
returns c =
    let extents = c.args.extents.now in
    let parted = IsPartitionedBy-leb (λ (s : Extent). s.from) extents c.args.byte (rising extents c.requires) in
    let point = c.partition_point.ensures.partitioned (λ (s : Extent). leb s.from c.args.byte) (always_returns_same _ _ _ (λ a r f k. search (rules, of_calls))) parted in
    parts_at extents c.args.byte c.partition_point.result c.partition_point.ensures.bound point
