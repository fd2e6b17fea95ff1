use Rattle.std.proofs.Common.{◌≡◌, [], replicate}
use Rattle.inbox.proofs.blocks.empty_with_room.Given as goal

abbrev pub invariant-loop-room : goal.invariant-loop-room
invariant-loop-room l = l.inboxes.items ≡ replicate l.room-index []
