use Rattle.std.proofs.Common.{◌≡◌, ◌-◌}
use Rattle.checkpoint.specs.Reading.{items_at, signed_at}
use Rattle.checkpoint.proofs.Tools.{behind}
use Rattle.checkpoint.proofs.vertices.read_few.Given as goal

abbrev pub invariant-loop : goal.invariant-loop
invariant-loop l = behind l.inbox (items_at signed_at (l.count - l.counter) l.rest) ≡ items_at signed_at l.count l.bytes
