use Rattle.std.proofs.Common.{◌≡◌, [], take}
use Rattle.std.specs.List.{flat_map}
use Rattle.inbox.specs.inside.Streams.{left_in}
use Rattle.inbox.proofs.streams.Streams.are_taken.Given as goal

abbrev pub invariant-loop-rest : goal.invariant-loop-rest
invariant-loop-rest l = flat_map left_in (take l.rest-index l.self.rests.items) ≡ []
