use Rattle.std.proofs.Common.{◌≡◌}
use Rattle.inbox.specs.Merging.{all_of}
use Rattle.inbox.proofs.all_parts.together.Given as goal

abbrev pub invariant-loop-share : goal.invariant-loop-share
invariant-loop-share l = l.all.items ≡ all_of l.yielded
