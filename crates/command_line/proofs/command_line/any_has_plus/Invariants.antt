use Rattle.std.proofs.Common.{◌≡◌, false, take}
use Rattle.std.specs.List.{list_any}
use Rattle.command_line.specs.CommandLine.{is_signed}
use Rattle.command_line.specs.inside.Matches.{rows_in}
use Rattle.command_line.proofs.command_line.any_has_plus.Given as goal

abbrev pub invariant-loop-name : goal.invariant-loop-name
invariant-loop-name l = list_any (λ s. is_signed (rows_in l.entries) s.now) (take l.name-index l.names) ≡ false
