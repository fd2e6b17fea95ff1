use Rattle.std.proofs.Common.{◌≡◌, ℕ, List, map, take}
use Rattle.verified.specs.Modules.{name_of_export, AreDistinct}
use Rattle.validate.proofs.Distinct.{is_among, has_name}
use Rattle.validate.proofs.exports.have_distinct_names.Given as goal

abbrev pub invariant-loop-export : goal.invariant-loop-export
invariant-loop-export l =
    let names = map name_of_export (take l.export-index l.exports) in
    record { distinct : AreDistinct names; seen : (name : List ℕ) → has_name l.seen name ≡ is_among names name }
