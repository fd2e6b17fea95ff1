use Rattle.std.proofs.Common.{length, replicate, Bool, false, ap, ◌∙◌, arith}
use Rattle.std.proofs.lemmas.List.{length-replicate}
use Rattle.verified.specs.Memory.{memory_bytes}
use Rattle.verified.specs.Reached.{accesses}
use Rattle.bounded_profile.proofs.ReachedFootprint.{all_length}
use Rattle.verified.proofs.MemorySize.{memory_small}
use Rattle.bounded_profile.proofs.ReachedExtents.{tell_reached}
use Rattle.bounded_profile.proofs.extents.footprint_extents.Goals as goal

pub extents_of-requires : goal.extents_of-requires
extents_of-requires c =
    let m = c.args.module.now in
    let same = ap length (c.deref.ensures.value ∙ c.in_ok-marks.ensures) in
    let all = all_length (accesses m) (replicate (memory_bytes m) false) in
    let fresh = length-replicate {A = Bool} (memory_bytes m) false in
    let small = memory_small m c.requires in
    omega (arith, same, all, fresh, small)

pub returns : goal.returns
returns c =
    tell_reached c.args.module.now c.deref.result.now c.in_ok-extents.extents.items (c.deref.ensures.value ∙ c.in_ok-marks.ensures) c.in_ok-extents.ensures
