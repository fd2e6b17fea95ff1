use Rattle.std.proofs.Common.{[], ◌∷◌, ◌++◌, ◌∙◌}
use Rattle.std.proofs.lemmas.List.{replicate_more}
use Rattle.inbox.proofs.blocks.empty_with_room.Goals as goal

pub loop-room-preserved : goal.loop-room-preserved
loop-room-preserved c = c.in_ok-push.ensures.items ∙ (λ i. c.loop-room.invariant i ++ c.in_ok-inbox.ensures i ∷ []) ∙ replicate_more c.loop-room.room-index []
