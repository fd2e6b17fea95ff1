use Rattle.std.proofs.Common.{◌≡◌, drop, replicate, false}
use Rattle.verified.specs.Arities.{arity_table}
use Rattle.verified.specs.Memory.{memory_bytes}
use Rattle.verified.specs.Reached.{accesses_in}
use Rattle.bounded_profile.specs.inside.Footprint.{marked_all}
use Rattle.bounded_profile.proofs.footprint.footprint_marks.Given as goal

abbrev pub invariant-loop-function : goal.invariant-loop-function
invariant-loop-function l =
    let table = arity_table l.«module» in
    marked_all (accesses_in table l.function-items) (replicate (memory_bytes l.«module») false) ≡ marked_all (accesses_in table (drop l.function-index l.function-items)) l.marks.items
