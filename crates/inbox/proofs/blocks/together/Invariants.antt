use Rattle.std.proofs.Common.{◌≡◌}
use Rattle.inbox.specs.Merging.{all_of}
use Rattle.inbox.proofs.blocks.together.Given as goal

abbrev pub invariant-loop-block : goal.invariant-loop-block
invariant-loop-block l = l.inboxes.items ≡ all_of l.yielded
